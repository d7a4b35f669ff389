-- For `bytes_stop` and `lex_bytes`: where a bytes literal stops, one turn of the loop at a time, and what stands there. By induction on the turns
-- that are left. Assumes nothing.
use mathlib.Core.Path.{◌≡◌, refl, ap, sym, ◌∙◌}
use mathlib.Core.List.{List, []}
use mathlib.Core.Logic.{◌⊎◌, inl, inr}
use denote.Bor.{Bor}
use Rattle.std.proofs.Common.{Option, Some, None, unwrap_or}
use Rattle.std.specs.Option.{MatchOption}
use Rattle.std.specs.List.{slice_range}
use Prim.Native.Nat.{ℕ, zero, suc, ◌+◌, ◌-◌, ◌*◌, ◌/◌, ◌≤◌, ◌<◌}
use native.Mathlib.Numerals.{add-one}
use native.Mathlib.Omega.{arith}
use borrow.Author.Tests.{eqb-true, ltb-true, ltb-false}
use lib.Dec.{ltb, eqb}
use lib.ListN.{length, drop, drop_of_length-le, length-drop}
use lib.Seq.{drop-cons, get_or-drop}
use Rattle.base.specs.Choice.{pick}
use Rattle.base.specs.Bytes.{byte}
use Rattle.base.proofs.Tests.{by_cases, pick_case}
use Rattle.base.proofs.Reaches.{rest_is}
use Rattle.scan.specs.Bytes.{bytes_stop}
use Rattle.scan.specs.declared.bytes.Stop.TheVariants as stop
use Rattle.scan.specs.declared.bytes.Stop.{Stop}

-- where the literal stops from the index n behind its opening quote on
abbrev pub stop_from : ℕ → List ℕ → ℕ → Stop
stop_from limit t n = bytes_stop limit n (drop n t)

-- the same, by the byte there
abbrev pub stop_at : ℕ → List ℕ → ℕ → Stop
stop_at limit t n =
    pick (ltb limit (n / 4 * 3)) (stop.Over n)
    (pick (eqb (byte t n) 34) (stop.Closed n) (pick (eqb (byte t n) 10) (stop.Newline n) (stop_from limit t (n + 1))))

module _ (limit : ℕ) (t : List ℕ) (n : ℕ) where
  pub stop_turn : n < length t → stop_from limit t n ≡ stop_at limit t n
  unfolding bytes_stop
  stop_turn h = let next : drop (n + 1) t ≡ drop (suc n) t = ap (λ (k : ℕ). drop k t) (add-one n) in rw (next, drop-cons t n 0 h)

  pub stop_end : length t ≤ n → stop_from limit t n ≡ stop.Open n
  unfolding bytes_stop
  stop_end h = rw (drop_of_length-le t h)

-- the bytes behind `b"`, where there are any
pub behind_is : (s : List ℕ) (r : Option (Bor (List ℕ))) (d : Bor (List ℕ)) → d.now ≡ []
    → MatchOption r ((length s < 2) ⊎ (length s < length s))
    (λ x. (2 ≤ length s) × (length s ≤ length s) × (x.now ≡ slice_range s 2 (length s)) × (length x.now + 2 ≡ length s)) → (unwrap_or r d).now ≡ drop 2 s
behind_is s None d e (inl h) = let q : length s ≤ 2 = omega arith in e ∙ sym (drop_of_length-le s q)
behind_is s None d e (inr h) = absurd (omega arith)
behind_is s (Some x) d e h = h.2 ∙ rest_is s 2

-- what holds of a text where its literal stops
abbrev pub Stands : List ℕ → Stop → Type 0
Stands s (stop.Over n) = n + 2 < length s
Stands s (stop.Closed n) = (n + 2 < length s) × (byte s (n + 2) ≡ 34)
Stands s (stop.Newline n) = (n + 2 < length s) × (byte s (n + 2) ≡ 10)
Stands s (stop.Open n) = n ≡ length s - 2

module _ (limit : ℕ) (s : List ℕ) where
  -- k bounds the turns that are left
  stands_from : (k n : ℕ) → length s ≤ n + 2 + k → n ≤ length s - 2 → Stands s (stop_from limit (drop 2 s) n)
  stands_from zero n h l = rw (stop_end limit (drop 2 s) n (omega (arith, length-drop 2 s))) (omega arith)
  stands_from (suc k) n h l =
      let t = drop 2 s in
      let two : n + 2 ≡ 2 + n = omega arith in
      let here : byte t n ≡ byte s (n + 2) = rw two (get_or-drop 2 s n 0) in
      by_cases (ltb n (length t))
      (λ q. let e = ltb-true n (length t) q in
      let i : n + 2 < length s = omega (arith, length-drop 2 s) in
      rw (stop_turn limit t n e)
      (pick_case (Stands s) (ltb limit (n / 4 * 3)) (λ x. i)
      (λ x. pick_case (Stands s) (eqb (byte t n) 34) (λ y. (i, sym here ∙ eqb-true (byte t n) 34 y))
      (λ y. pick_case (Stands s) (eqb (byte t n) 10) (λ z. (i, sym here ∙ eqb-true (byte t n) 10 z))
      (λ z. stands_from k (n + 1) (omega arith) (omega arith))))))
      (λ q. let e = ltb-false n (length t) q in rw (stop_end limit t n e) (omega (arith, length-drop 2 s)))

  pub stands : Stands s (bytes_stop limit 0 (drop 2 s))
  stands = stands_from (length s) 0 (omega arith) (omega arith)

-- the bytes of a literal, by where it stops
abbrev count_of : Stop → ℕ
count_of (stop.Over n) = n
count_of (stop.Closed n) = n
count_of (stop.Newline n) = n
count_of (stop.Open n) = n

-- they are in the text; `grind` takes this up where it reads the first equation's side
pub stop_within : (limit : ℕ) (s : List ℕ)
    → let e = bytes_stop limit 0 (drop 2 s) in (e ≡ e) × (count_of e ≤ length s)
stop_within limit s = (refl, go (bytes_stop limit 0 (drop 2 s)) (stands limit s))
  where
    go : (e : Stop) → Stands s e → count_of e ≤ length s
    go (stop.Over n) l = omega arith
    go (stop.Closed n) l = omega arith
    go (stop.Newline n) l = omega arith
    go (stop.Open n) l = omega arith
