-- For `text` and `write_number`: the library's text of a number is `number_text`, by the library's steps over the digits; and bytes copied to a part of
-- a buffer, with one more after them, are stored there.
use Rattle.std.proofs.Common.{◌≡◌, ℕ, zero, suc, ◌+◌, ◌*◌, ◌/◌, ◌%◌, ◌^◌, ◌<◌, ◌≤◌, List, [], ◌∷◌, ◌++◌, length, length-append, take, drop, ℤ, pos, negsuc, FitsSigned, w64, append_assoc, sym, ap, arith}
use native.Mathlib.Nat.{div-lt_iff_lt-mul, pow-suc}
use borrow.Author.Tests.{eq-eqb, ne_eqb}
use borrow.Rule.Slice.PartMut.{put_mid}
use Rattle.std.proofs.Math.ListN.{set}
use Rattle.std.proofs.Math.Seq.{take-append_seam}
use Rattle.std.proofs.lemmas.List.{drop-drop}
use Rattle.std.proofs.lemmas.List.Edits.{sets, sets-eq}
use Rattle.std.specs.Fmt.{decimal, signed_decimal}
use Rattle.std.proofs.lemmas.Fmt.{decimal_by_steps}
use Rattle.base.proofs.Stores.{sets_append}
use Rattle.notation.specs.Decimal.{digits_of, number_text}

-- the digits of a number that needs no more than k + 1
abbrev IsDigits : ℕ → List ℕ → Type 0
IsDigits n ds = (k : ℕ) → n < 10 ^ suc k → digits_of (suc k) n ≡ ds

one : (n : ℕ) → n < 10 → IsDigits n ((48 + n) ∷ [])
unfolding digits_of
one n h k q =
    let z : n / 10 ≡ 0 = omega arith in
    let d : n % 10 ≡ n = omega arith in
    rw (eq-eqb (n / 10) 0 z, d)

more : (n : ℕ) (ds : List ℕ) → 10 ≤ n → IsDigits (n / 10) ds → IsDigits n (ds ++ ((48 + n % 10) ∷ []))
unfolding digits_of
more n ds h w zero q = absurd (omega arith)
more n ds h w (suc k) q =
    let f : n < 10 ^ suc k * 10 = rw (pow-suc 10 (suc k)) at q in
    let e = w k ((div-lt_iff_lt-mul {k = 10} {x = n} {y = 10 ^ suc k} (omega arith)).1 f) in
    rw (ne_eqb (n / 10) 0 (λ z. omega arith), e)

pub decimal_text : (n : ℕ) → n < 2 ^ 64 → decimal n ≡ digits_of 20 n
decimal_text n h = sym (decimal_by_steps (λ m ds. IsDigits m ds) one more n h 19 (omega arith))

pub text_is : (z : ℤ) → FitsSigned w64 z → signed_decimal z ≡ number_text z
text_is (pos n) f = decimal_text n (omega (arith, f.sfits))
text_is (negsuc n) f = ap (45 ∷◌) (decimal_text (suc n) (omega (arith, f.sfits)))

-- t copied to the part of xs from a on, and b after it
pub copied : (xs : List ℕ) (a b : ℕ) {ys t : List ℕ} {k : ℕ} → ys ≡ t → k ≡ length t → a + length t ≤ length xs
    → set (put_mid a k xs ys) (a + length t) b ≡ sets xs a (t ++ (b ∷ []))
copied xs a b {ys} {t} {k} q e h =
    let p : put_mid a k xs ys ≡ sets xs a t = rw (q, e, sets-eq t xs a h, drop-drop) (sym (append_assoc (take a xs) t (drop (a + length t) xs))) in
    rw p (sym (sets_append xs a t (b ∷ [])))

-- the same at the front of a buffer, and what is taken of it
pub taken : (xs : List ℕ) (b k : ℕ) {ys t : List ℕ} → ys ≡ t → k ≡ length t → length t + 1 ≤ length xs
    → take (length t + 1) (set (put_mid 0 k xs ys) (length t) b) ≡ t ++ (b ∷ [])
taken xs b k {t = t} q e h =
    let n : length t + 1 ≡ length (t ++ (b ∷ [])) = omega (arith, length-append t (b ∷ [])) in
    let z : 0 + length t ≡ length t = omega arith in
    rw (rw z at (copied xs 0 b q e (omega arith)), n, sets-eq (t ++ (b ∷ [])) xs 0 (omega arith))
    (take-append_seam (t ++ (b ∷ [])) (drop (0 + length (t ++ (b ∷ []))) xs))
