-- For `leading_fraction`: the digits of a fraction by the tests that the code makes, kept or dropped. By induction on the list. Assumes nothing.
use Rattle.std.proofs.Common.{◌≡◌, ℕ, suc, ◌+◌, ◌<◌, ◌≤◌, Some, None, true, false, eqb, ltb, List, [], ◌∷◌, length, drop, sym, refl, ◌∙◌, le_refl, add-zero, zero-add, add-one, arith, get_or-drop, drop-cons, eqb-true, le-ltb, lt-ltb}
use Rattle.std.proofs.lemmas.Option.{none-some}
use Rattle.base.specs.Choice.{pick}
use Rattle.base.specs.Bytes.{byte}
use Rattle.base.specs.Classes.{is_digit}
use Rattle.base.specs.Runs.{run, reach}
use Rattle.base.specs.Digits.{in_digits}
use Rattle.base.proofs.Tests.{by_cases, true_false, in_text, no_digit, pick_first, pick_second}
use Rattle.base.proofs.Reaches.{reach_all, reach_step}
use Rattle.go_duration.specs.Fraction.{more, room, Acc, acc, no_digits, add_digit, read_digits}
use Rattle.go_duration.specs.Digits.{is_zero}

-- ---- the digits that are dropped, which are counted alone
read_over : (l : List ℕ) (f k n : ℕ) → read_digits l (acc f k n true) ≡ acc f k (n + run in_digits l) true
unfolding read_digits add_digit run
read_over [] f k n = rw (add-zero n)
read_over (b ∷ bs) f k n =
    let z : n + suc (run in_digits bs) ≡ n + 1 + run in_digits bs = omega arith in
    by_cases (is_digit b) (λ e. rw (e, z) (read_over bs f k (n + 1))) (λ e. rw (e, add-zero n))

-- from a digit on that is not kept, and where none follows
read_stop : (l : List ℕ) (f n : ℕ) → is_digit (byte l 0) ≡ true → room f (byte l 0) ≡ false
    → read_digits l (acc f n n false) ≡ acc f n (n + run in_digits l) (ltb n (n + run in_digits l))
unfolding read_digits add_digit run
read_stop [] f n d e = true_false (is_digit 0) d no_digit
read_stop (b ∷ bs) f n d e =
    let z : n + suc (run in_digits bs) ≡ n + 1 + run in_digits bs = omega arith in
    rw (d, e, z, lt-ltb n (n + 1 + run in_digits bs) (omega arith)) (read_over bs f n (n + 1))

read_none : (l : List ℕ) (a : Acc) → run in_digits l ≡ 0 → read_digits l a ≡ a
unfolding read_digits run
read_none [] a e = refl
read_none (b ∷ bs) a e = by_cases (is_digit b) (λ d. absurd (let h = rw d at e in omega arith)) (λ d. rw d)

-- ---- the loop: the first i bytes of s are digits, all of them kept, and form f; the digits end at n
pub record KeptTo (s : List ℕ) (n i f : ℕ) : Type 0 where
  pub ran : read_digits (drop i s) (acc f i i false) ≡ read_digits s no_digits
  pub ends : reach in_digits s i ≡ n

-- zeros are kept, and form 0
zero_digit : is_digit 48 ≡ true
unfolding is_digit
zero_digit = refl

zeros_read : (s : List ℕ) (k : ℕ)
    → read_digits (drop (run is_zero s) s) (acc 0 (k + run is_zero s) (k + run is_zero s) false) ≡ read_digits s (acc 0 k k false)
unfolding read_digits add_digit run
zeros_read [] k = rw (add-zero k)
zeros_read (b ∷ s) k =
    let z : k + suc (run is_zero s) ≡ k + 1 + run is_zero s = omega arith in
    by_cases (eqb b 48) (λ e. rw (e, eqb-true b 48 e, zero_digit, z) (zeros_read s (k + 1))) (λ e. rw (e, add-zero k))

pub kept_zeros : (s : List ℕ) (i : ℕ) → i ≡ reach is_zero s 0 → (n : ℕ) → n ≡ reach in_digits s i → KeptTo s n i 0
unfolding reach
kept_zeros s i e n h =
    let z : i ≡ run is_zero s = e ∙ zero-add (run is_zero s) in
    record { ran = rw z (rw zero-add at (zeros_read s 0)); ends = sym h }

module _ (s : List ℕ) (n i f : ℕ) (u : KeptTo s n i f) where
  module _ (h : i < n) where
    pub kept_digit : is_digit (byte s i) ≡ true
    kept_digit = reach_all in_digits s i i (le_refl i) (rw u.ends h)

    pub kept_inside : i < length s
    kept_inside = in_text is_digit s i no_digit kept_digit

    pub kept_more : (g : ℕ) → Some g ≡ pick (room f (byte s i)) (Some (more f (byte s i))) None → KeptTo s n (i + 1) g
    unfolding read_digits add_digit
    kept_more g e =
        let p = pick_first (room f (byte s i)) (none-some g) (sym e) in
        let c : drop i s ≡ byte s i ∷ drop (i + 1) s = rw (add-one, drop-cons s i 0 kept_inside) in
        let q : more f (byte s i) ≡ g = cc in
        record { ran = rw q at (rw (c, kept_digit, p.0) at u.ran); ends = reach_step in_digits s i kept_inside kept_digit ∙ u.ends }

    -- where the next digit is not kept, it and those after it are counted alone
    pub kept_over : None ≡ pick (room f (byte s i)) (Some (more f (byte s i))) None → acc f i n (ltb i n) ≡ read_digits s no_digits
    unfolding reach
    kept_over e =
        let p = pick_second (room f (byte s i)) (λ z. none-some _ (sym z)) (sym e) in
        let z : byte (drop i s) 0 ≡ byte s i = rw (get_or-drop, add-zero) in
        rw (← u.ends) (sym (read_stop (drop i s) f i (rw z kept_digit) (rw z p.0)) ∙ u.ran)

  pub kept_all : n ≤ i → acc f n n (ltb n n) ≡ read_digits s no_digits
  unfolding reach
  kept_all h =
      let e : i ≡ n = omega (arith, u.ends) in
      let z : run in_digits (drop i s) ≡ 0 = omega (arith, u.ends) in
      rw (le-ltb n n (le_refl n), ← e) (sym (read_none (drop i s) (acc f i i false) z) ∙ u.ran)

-- what `leading_fraction` needs at each turn and each return
pub ruleset keeping = (kept_zeros, kept_inside, kept_digit, kept_more, kept_over, kept_all)
