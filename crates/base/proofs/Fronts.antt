-- For the written durations of go_duration: the front of a list whose bytes pass a test. Where its run ends, that every list has such a front, and that there
-- is only one. By induction on the list. Assumes nothing.
use mathlib.Core.Path.{◌≡◌, refl, ap, sym, ◌∙◌}
use mathlib.Core.Bool.{Bool, true, false}
use mathlib.Core.List.{List, [], ◌∷◌, ◌++◌}
use Prim.Native.Nat.{ℕ, ◌+◌}
use lib.ListN.{length, take, drop}
use lib.Seq.{take-append_seam, drop-append_seam}
use Rattle.base.specs.Bytes.{byte, each}
use Rattle.base.specs.Runs.{run, reach}
use Rattle.base.proofs.Tests.{and_left, and_right, by_cases}

-- the list begins with a byte that passes
abbrev pub begins : (ℕ → Bool) → List ℕ → Bool
begins t [] = false
begins t (b ∷ s) = t b

pub begins_is : (t : ℕ → Bool) (l : List ℕ) → t 0 ≡ false → t (byte l 0) ≡ begins t l
begins_is t [] z = z
begins_is t (b ∷ l) z = refl

-- a list as a front of bytes that pass, as long as can be, and the rest
pub record Span (t : ℕ → Bool) (s : List ℕ) : Type 0 where
  pub front : List ℕ
  pub back : List ℕ
  pub bytes : s ≡ front ++ back
  pub passes : each t front ≡ true
  pub stops : begins t back ≡ false

module _ (t : ℕ → Bool) where
  -- the run has the length of the front
  pub run_front : (xs ys : List ℕ) → each t xs ≡ true → begins t ys ≡ false → run (λ a b. t a) (xs ++ ys) ≡ length xs
  unfolding run
  run_front [] [] e f = refl
  run_front [] (y ∷ ys) e f = rw f
  run_front (x ∷ xs) ys e f =
      let h = and_left (t x) (each t xs) e in
      let q = run_front xs ys (and_right (t x) (each t xs) e) f in
      rw (h, q)

  pub reach_front : (s : List ℕ) (i : ℕ) (xs ys : List ℕ) → drop i s ≡ xs ++ ys → each t xs ≡ true → begins t ys ≡ false
      → reach (λ a b. t a) s i ≡ i + length xs
  unfolding reach
  reach_front s i xs ys d e f = rw (d, run_front xs ys e f)

  pub span : (s : List ℕ) → Span t s
  span [] = record { front = []; back = []; bytes = refl; passes = refl; stops = refl }
  span (b ∷ s) =
      let p = span s in
      by_cases (t b)
      (λ e. record { front = b ∷ p.front; back = p.back; bytes = ap (λ (l : List ℕ). b ∷ l) p.bytes; passes = rw e p.passes; stops = p.stops })
      (λ e. record { front = []; back = b ∷ s; bytes = refl; passes = refl; stops = e })

  module _ (xs ys us vs : List ℕ) (ex : each t xs ≡ true) (ny : begins t ys ≡ false) (eu : each t us ≡ true) (nv : begins t vs ≡ false)
      (same : xs ++ ys ≡ us ++ vs) where
    same_length : length xs ≡ length us
    same_length = sym (run_front xs ys ex ny) ∙ ap (run (λ a b. t a)) same ∙ run_front us vs eu nv

    -- there is only one such front
    pub same_front : xs ≡ us
    same_front = sym (take-append_seam xs ys) ∙ ap (take (length xs)) same ∙ rw same_length (take-append_seam us vs)

    pub same_back : ys ≡ vs
    same_back = sym (drop-append_seam xs ys) ∙ ap (drop (length xs)) same ∙ rw same_length (drop-append_seam us vs)
