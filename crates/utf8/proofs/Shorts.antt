-- For `past_short`: windows of characters of one or two bytes. Each byte, or the place after it where it is a UTF8-tail, is between characters, by one byte
-- after the other. Assumes nothing.
use mathlib.Core.Path.{◌≡◌, refl, sym, ◌∙◌, ap}
use mathlib.Core.Bool.{Bool, true, false, not, ◌&&◌}
use mathlib.Core.List.{List, ◌∷◌}
use Prim.Native.Nat.{ℕ, suc, ◌+◌, ◌-◌, ◌≤◌, ◌<◌, ◌^◌}
use native.Mathlib.Nat.{add-zero}
use native.Mathlib.Numerals.{add-one}
use native.Mathlib.Omega.{arith}
use borrow.Author.Tests.{ltb-true, ltb-false, not-true}
use lib.Dec.{ltb}
use lib.ListN.{length, take, drop}
use lib.Seq.{drop-cons}
use mir.Syntax.{w64}
use mir.Val.{Fits, bool_byte}
use Rattle.base.specs.Bytes.{byte, within}
use Rattle.base.specs.Runs.{past}
use Rattle.base.specs.Blocks.{all_pairs}
use Rattle.base.proofs.Blocks.{over_pairs, ahead_first, ahead_pairs}
use Rattle.base.proofs.Tests.{and_left, and_right, by_cases, true_false, within_low, within_high, over, inside, or_case}
use Rattle.base.proofs.Walks.{past_step}
use Rattle.utf8.specs.Grammar.{char_size}
use Rattle.utf8.specs.Helpers.{in_ascii, in_short}
use Rattle.utf8.specs.Check.{is_tail}
use Rattle.utf8.proofs.Scans.{onward_first}
use Rattle.utf8.specs.Onward.{Onward}
use Rattle.utf8.proofs.Runs.{ascii_past, reach_past}

-- ---- a byte and the one after it

-- UTF8-2
two_size : (a b : ℕ) (s : List ℕ) → within 0xC2 0xDF a ≡ true → is_tail b ≡ true → char_size (a ∷ b ∷ s) ≡ 2
unfolding char_size is_tail
two_size a b s e f = rw (over 0 0x7F a (omega (arith, within_low 0xC2 0xDF a e)), e, f)

module _ (a b : ℕ) (e : in_short a b ≡ true) where
  -- a begins UTF8-2, or no UTF8-tail follows
  either : {X : Type 0} → (within 0xC2 0xDF a ≡ true → is_tail b ≡ true → X) → (a < 0xC0 → is_tail b ≡ false → X) → X
  unfolding in_short
  either f g =
      let p : Bool = within 0xC2 0xDF a in
      let q : Bool = ltb a 0xC0 in
      let t : Bool = is_tail b in
      or_case (p && t) (q && not t) e (λ u. f (and_left p t u) (and_right p t u))
      (λ u. g (ltb-true a 0xC0 (and_left q (not t) u)) (not-true t (and_right q (not t) u)))

  no_second : is_tail a ≡ true → is_tail b ≡ false
  unfolding is_tail
  no_second t = either (λ f v. absurd (omega (arith, within_low 0xC2 0xDF a f, within_high 0x80 0xBF a t))) (λ l v. v)

  begins_two : is_tail b ≡ true → within 0xC2 0xDF a ≡ true
  begins_two t = either (λ f v. f) (λ l v. true_false (is_tail b) t v)

  is_one : is_tail a ≡ false → is_tail b ≡ false → a < 0x80
  unfolding is_tail
  is_one n t =
      let low : a < 0xC0 = either (λ f v. true_false (is_tail b) v t) (λ l v. l) in
      by_cases (ltb a 0x80) (λ q. ltb-true a 0x80 q)
      (λ q. true_false (is_tail a) (inside 0x80 0xBF a (ltb-false a 0x80 q) (omega arith)) n)

-- ---- from one byte to the next

module _ (s : List ℕ) where
  -- i, or the place after it where a UTF8-tail stands at i
  abbrev place : ℕ → ℕ
  place i = i + bool_byte (is_tail (byte s i))

  two_past : (i : ℕ) → i + 1 < length s → within 0xC2 0xDF (byte s i) ≡ true → is_tail (byte s (i + 1)) ≡ true
      → past char_size s (i + 1 + 1) ≡ past char_size s i
  two_past i h e t =
      let c : drop i s ≡ byte s i ∷ byte s (i + 1) ∷ drop (suc (i + 1)) s =
      drop-cons s i 0 (omega arith) ∙ rw (← add-one i, drop-cons s (i + 1) 0 h) in
      let q : i + 1 + 1 ≡ i + 2 = omega arith in
      rw q (past_step char_size s i 1 (omega arith) (rw c (two_size (byte s i) (byte s (i + 1)) (drop (suc (i + 1)) s) e t)))

  step : (i : ℕ) → i + 1 < length s → in_short (byte s i) (byte s (i + 1)) ≡ true → past char_size s (place (i + 1)) ≡ past char_size s (place i)
  step i h e = go (is_tail (byte s i)) refl (is_tail (byte s (i + 1))) refl
    where
      go : (x : Bool) → is_tail (byte s i) ≡ x → (y : Bool) → is_tail (byte s (i + 1)) ≡ y
          → past char_size s (i + 1 + bool_byte y) ≡ past char_size s (i + bool_byte x)
      go true p true q = true_false (is_tail (byte s (i + 1))) q (no_second (byte s i) (byte s (i + 1)) e p)
      go true p false q = rw (add-zero (i + 1))
      go false p true q = rw (add-zero i) (two_past i h (begins_two (byte s i) (byte s (i + 1)) e q) q)
      go false p false q = rw (add-zero (i + 1), add-zero i) (ascii_past s i (omega arith) (is_one (byte s i) (byte s (i + 1)) e p q))

-- ---- the loop of `past_short`

module _ (s : List ℕ) (at i n : ℕ) (u : Onward s at i) (h : n < length s - i) where
  -- a window of ASCII bytes
  pub ascii_window : (b : Bool) → b ≡ all_pairs in_ascii (take (i + n + 1 - i) (drop i s)) → b ≡ true → Onward s at (i + n)
  ascii_window b e y =
      let a = ahead_pairs in_ascii s i i n (ahead_first in_ascii s i u.inside) h b e y in
      let p = reach_past in_ascii (λ a b t. t) s in
      record { later = omega (arith, u.later); inside = a.inside; same = sym (p (i + n)) ∙ ap (past char_size s) a.same ∙ p i ∙ u.same }

  -- a window of characters of one or two bytes: it has a byte after it
  upto : (x : Bool) → i + n + bool_byte x ≤ length s
  upto true = omega arith
  upto false = omega arith

  pub window_fits : (x : Bool) → length s < 2 ^ 64 → Fits w64 (i + n + bool_byte x)
  window_fits x l = record { fits = omega (arith, upto x) }

  -- and at its first byte a character begins
  pub short_window : (t : Bool) → t ≡ is_tail (byte s i) → (b : Bool) → b ≡ all_pairs in_short (take (i + n + 1 - i) (drop i s)) → not t && b ≡ true
      → (x : Bool) → x ≡ is_tail (byte s (i + n)) → Onward s at (i + n + bool_byte x)
  short_window t f b e y x g =
      let z : i + n + 1 - i ≡ suc n = omega arith in
      let o : all_pairs in_short (take (suc n) (drop i s)) ≡ true = sym (rw z at e) ∙ and_right (not t) b y in
      let w : is_tail (byte s i) ≡ false = sym f ∙ not-true t (and_left (not t) b y) in
      let l : past char_size s (place s (i + n)) ≡ past char_size s (place s i) =
      over_pairs in_short s (λ k. past char_size s (place s k)) (step s) n i (omega (arith, u.inside)) o in
      let m : past char_size s (i + n + bool_byte x) ≡ past char_size s i = rw (← g, w, add-zero i) at l in
      record { later = omega (arith, u.later); inside = upto x; same = m ∙ u.same }

-- what `past_short` needs at each turn
pub ruleset windows = (onward_first, ascii_window, window_fits)
