-- For `value_of` and `decode_bytes`: the values of characters. The code's table has each, by one test that antt computes, and of a run that decodes the
-- values before its first pad character are those of its characters, by induction on the run. Assumes nothing.
use mathlib.Core.Path.{◌≡◌, refl, ap, ◌∙◌}
use mathlib.Core.Bool.{Bool, true, ◌&&◌}
use mathlib.Core.List.{List, [], ◌∷◌, map}
use Prim.Native.Nat.{ℕ, ◌≤◌, ◌<◌}
use Prim.Native.Char.{code}
use native.Mathlib.Omega.{arith}
use borrow.Author.Tests.{ltb-true, lt-ltb, le-ltb, eqb-true, ne_eqb}
use lib.Dec.{eqb, ltb}
use lib.ListN.{get_or}
use Rattle.base.specs.Bytes.{each}
use Rattle.base.proofs.Tests.{by_cases, and_left, and_right, or_case}
use Rattle.base.proofs.ByteKinds.{numbers_agree}
use Rattle.base64_lenient.specs.Rfc4648.{Alphabet, standard, url_safe, pad}
use Rattle.base64_lenient.specs.Lenient.{is_line_break, without_breaks, before_pads, value_in, is_in, six_bits, is_pad, decodes, regroup, decoded}
use Rattle.base64_lenient.specs.Helpers.{values, values_of, bytes_from}
use Rattle.base64_lenient.proofs.Characters.{in_alphabet}
use Rattle.base64_lenient.proofs.Texts.{each_other}

-- each of the 256 entries is the value of its byte
pub value_at : (b : ℕ) → b < 256 → get_or values b 0 ≡ six_bits b
unfolding value_in
value_at = numbers_agree (λ (b : ℕ). get_or values b 0) (λ (b : ℕ). six_bits b) tt

-- ---- the values of a list, by its first byte

pad_value : (b : ℕ) → b ≡ pad → six_bits b ≡ 64
unfolding value_in
pad_value b e = rw e

pub has_value_lem : (b : ℕ) (s : List ℕ) → six_bits b < 64 → values_of (b ∷ s) ≡ six_bits b ∷ values_of s
unfolding values_of
has_value_lem b s h = rw (ne_eqb b pad (λ e. omega (arith, pad_value b e)), lt-ltb (six_bits b) 64 h)

pub no_value : (b : ℕ) (s : List ℕ) → (b ≡ pad → ⊥) → 64 ≤ six_bits b → values_of (b ∷ s) ≡ values_of s
unfolding values_of
no_value b s n h = rw (ne_eqb b pad n, le-ltb (six_bits b) 64 h)

pub pad_ends : (s : List ℕ) → values_of (pad ∷ s) ≡ []
unfolding values_of
pad_ends s = refl

-- a line break has no value
break_value : (b : ℕ) (s : List ℕ) → is_line_break b ≡ true → values_of (b ∷ s) ≡ values_of s
unfolding value_in values_of
break_value b s e =
    or_case (eqb b (code "\r")) (eqb b (code "\n")) e (λ q. rw (eqb-true b (code "\r") q)) (λ q. rw (eqb-true b (code "\n") q))

-- ---- the values of a run that decodes

abbrev has_value : ℕ → Bool
has_value b = ltb (six_bits b) 64

-- a character that an alphabet has has a value
in_value : (a : Alphabet) (b : ℕ) → is_in a b ≡ true → has_value b ≡ true
in_value a b e = lt-ltb (six_bits b) 64 (in_alphabet a b e).0

abbrev characters : List ℕ → List ℕ
characters run = before_pads (without_breaks run)

have_values : (run : List ℕ) → decodes run ≡ true → each has_value (characters run) ≡ true
unfolding decodes
have_values run e =
    let cs = characters run in
    or_case (each (is_in standard) cs) (each (is_in url_safe) cs) (and_left _ _ e)
    (each_other (is_in standard) has_value (in_value standard) cs) (each_other (is_in url_safe) has_value (in_value url_safe) cs)

values_are : (run : List ℕ) → each has_value (characters run) ≡ true → values_of run ≡ map six_bits (characters run)
unfolding without_breaks before_pads values_of
values_are [] e = refl
values_are (b ∷ s) e =
    by_cases (is_line_break b) (λ q. break_value b s q ∙ rw q (values_are s (rw q at e)))
    (λ q. by_cases (is_pad b) (λ p. rw (q, p))
    (λ p. let v : has_value b && each has_value (characters s) ≡ true = rw (q, p) at e in
    has_value_lem b s (ltb-true (six_bits b) 64 (and_left (has_value b) (each has_value (characters s)) v))
    ∙ rw (q, p) (ap (six_bits b ∷◌) (values_are s (and_right (has_value b) (each has_value (characters s)) v)))))

-- what the code writes of a run that decodes is what it decodes to
pub decoded_is : (run : List ℕ) → decodes run ≡ true → bytes_from run 0 ≡ decoded run
unfolding decoded
decoded_is run e = ap regroup (values_are run (have_values run e))
