-- For Chars and Leads: a table of alternatives, of which each octet can begin one at most. What matches an alternative is what the reader finds. By
-- induction on the table and on the ranges. Assumes nothing.
use mathlib.Core.Path.{◌≡◌, refl, ap, sym, ◌∙◌}
use mathlib.Core.Bool.{Bool, true, false, ◌&&◌}
use mathlib.Core.List.Memᴰ
use mathlib.Core.List.{List, [], ◌∷◌, ◌++◌, Memᴰ}
use mathlib.Core.Logic.{⊎_elim}
use Prim.Native.Nat.{ℕ, suc, ◌≤◌, ◌<◌, zero-le, suc-le-suc}
use native.Mathlib.Omega.{arith}
use borrow.Author.Tests.{leb-true}
use lib.Dec.{leb}
use lib.ListN.{length, take}
use Rattle.base.specs.Bytes.{byte, within}
use Rattle.base.proofs.Tests.{and_left, and_right, by_cases, true_false, inside, over, under, within_low, within_high}
use Rattle.utf8.specs.Grammar.{Range, Matches, done, next, begins, first_of}

pub matches_length : {rs : List Range} {c : List ℕ} → Matches rs c → length c ≡ length rs
matches_length done = refl
matches_length (next l h m) = ap suc (matches_length m)

pub matches_begins : {rs : List Range} {c : List ℕ} (t : List ℕ) → Matches rs c → begins rs (c ++ t) ≡ true
matches_begins t done = refl
matches_begins t (next {r = r} {b = b} l h m) = rw (inside r.lo r.hi b l h) (matches_begins t m)

pub begins_matches : (rs : List Range) (s : List ℕ) → begins rs s ≡ true → Matches rs (take (length rs) s)
begins_matches [] s e = done
begins_matches (r ∷ rs) [] e = true_false false e refl
begins_matches (r ∷ rs) (b ∷ s) e =
    let w = and_left (within r.lo r.hi b) (begins rs s) e in
    next (within_low r.lo r.hi b w) (within_high r.lo r.hi b w)
    (begins_matches rs s (and_right (within r.lo r.hi b) (begins rs s) e))

-- an alternative does not run past the end
pub begins_length : (rs : List Range) (s : List ℕ) → begins rs s ≡ true → length rs ≤ length s
begins_length [] s e = zero-le
begins_length (r ∷ rs) [] e = true_false false e refl
begins_length (r ∷ rs) (b ∷ s) e = suc-le-suc (begins_length rs s (and_right (within r.lo r.hi b) (begins rs s) e))

-- an alternative of n octets that the list begins with
pub record Found (rss : List (List Range)) (s : List ℕ) (n : ℕ) : Type 0 where
  pub rs : List Range
  pub among : Memᴰ rs rss
  pub fits : begins rs s ≡ true
  pub size : length rs ≡ n

pub first_found : (rss : List (List Range)) (s : List ℕ) (n : ℕ) → first_of rss s ≡ suc n → Found rss s (suc n)
first_found [] s n e = absurd (omega arith)
first_found (rs ∷ rss) s n e =
    by_cases (begins rs s) (λ q. record { rs = rs; among = Memᴰ.head refl; fits = q; size = rw q at e })
    (λ q. let f = first_found rss s n (rw q at e) in record { rs = f.rs; among = Memᴰ.tail f.among; fits = f.fits; size = f.size })

-- the first octets rise from n on, so that each begins one alternative at most
abbrev pub rising : ℕ → List (List Range) → Bool
rising n [] = true
rising n ([] ∷ rss) = false
rising n ((r ∷ rs) ∷ rss) = leb n r.lo && (leb r.lo r.hi && rising (suc r.hi) rss)

-- what such a table says of its first alternative
module _ (n : ℕ) (r : Range) (rs : List Range) (rss : List (List Range)) (e : rising n ((r ∷ rs) ∷ rss) ≡ true) where
  rises : leb r.lo r.hi && rising (suc r.hi) rss ≡ true
  rises = and_right (leb n r.lo) (leb r.lo r.hi && rising (suc r.hi) rss) e

  pub rises_low : n ≤ r.lo
  rises_low = leb-true n r.lo (and_left (leb n r.lo) (leb r.lo r.hi && rising (suc r.hi) rss) e)

  pub rises_high : r.lo ≤ r.hi
  rises_high = leb-true r.lo r.hi (and_left (leb r.lo r.hi) (rising (suc r.hi) rss) rises)

  pub rises_on : rising (suc r.hi) rss ≡ true
  rises_on = and_right (leb r.lo r.hi) (rising (suc r.hi) rss) rises

-- no alternative begins with an octet below n
pub first_under : (n : ℕ) (rss : List (List Range)) (a : ℕ) (s : List ℕ) → rising n rss ≡ true → a < n → first_of rss (a ∷ s) ≡ 0
first_under n [] a s e h = refl
first_under n ([] ∷ rss) a s e h = true_false false e refl
first_under n ((r ∷ rs) ∷ rss) a s e h =
    let l = rises_low n r rs rss e in
    let u = rises_high n r rs rss e in
    rw (under r.lo r.hi a (omega arith)) (first_under (suc r.hi) rss a s (rises_on n r rs rss e) (omega arith))

-- and what an alternative fits begins with an octet from n on
low_first : (r : Range) (rs : List Range) (s : List ℕ) → begins (r ∷ rs) s ≡ true → r.lo ≤ byte s 0
low_first r rs [] e = true_false false e refl
low_first r rs (b ∷ s) e = within_low r.lo r.hi b (and_left (within r.lo r.hi b) (begins rs s) e)

found_low : (n : ℕ) (rss : List (List Range)) {rs : List Range} (s : List ℕ) → rising n rss ≡ true → Memᴰ rs rss → begins rs s ≡ true → n ≤ byte s 0
found_low n [] s e m f = absurd (Memᴰ.not-nil m)
found_low n ([] ∷ rss) s e m f = true_false false e refl
found_low n ((r ∷ q) ∷ rss) s e m f =
    let l = rises_low n r q rss e in
    let u = rises_high n r q rss e in
    ⊎_elim (λ p. omega (arith, low_first r q s (rw p at f))) (λ k. omega (arith, found_low (suc r.hi) rss s (rises_on n r q rss e) k f))
    (Memᴰ.cases_cons m)

begins_over : (r : Range) (rs : List Range) (s : List ℕ) → r.hi < byte s 0 → begins (r ∷ rs) s ≡ false
begins_over r rs [] h = refl
begins_over r rs (b ∷ s) h = rw (over r.lo r.hi b h)

-- the alternative that fits is the first that does
pub found_first : (n : ℕ) (rss : List (List Range)) {rs : List Range} (s : List ℕ) → rising n rss ≡ true → Memᴰ rs rss → begins rs s ≡ true
    → first_of rss s ≡ length rs
found_first n [] s e m f = absurd (Memᴰ.not-nil m)
found_first n ([] ∷ rss) s e m f = true_false false e refl
found_first n ((r ∷ q) ∷ rss) {rs} s e m f =
    let on = rises_on n r q rss e in
    ⊎_elim (λ p. let g : begins (r ∷ q) s ≡ true = rw p at f in rw g (ap length (sym p)))
    (λ (k : Memᴰ rs rss). rw (begins_over r q s (found_low (suc r.hi) rss s on k f)) (found_first (suc r.hi) rss s on k f))
    (Memᴰ.cases_cons m)

-- a test that each alternative passes
abbrev pub every : (List Range → Bool) → List (List Range) → Bool
every p [] = true
every p (rs ∷ rss) = p rs && every p rss

pub every_at : (p : List Range → Bool) (rss : List (List Range)) {rs : List Range} → every p rss ≡ true → Memᴰ rs rss → p rs ≡ true
every_at p [] e m = absurd (Memᴰ.not-nil m)
every_at p (q ∷ rss) e m =
    ⊎_elim (λ x. ap p x ∙ and_left (p q) (every p rss) e) (λ k. every_at p rss (and_right (p q) (every p rss) e) k) (Memᴰ.cases_cons m)
