-- For Cuts: two texts in each of which a Duration is seen make one, and a text in which one is seen is cut into two such behind a letter and before a digit;
-- and sums under a sign. By the parts. Assumes nothing.
use Rattle.std.specs.Prelude.{Some, None}
use mathlib.Core.Path.{◌≡◌, refl, ap, sym, subst, ◌∙◌}
use mathlib.Core.Bool.{Bool, true, false}
use mathlib.Core.List.{List, [], ◌∷◌, ◌++◌, append_assoc, append-nil, tail}
use Prim.Native.Nat.{ℕ, zero, suc, ◌+◌, ◌<◌}
use native.Mathlib.Nat.{not-suc-le-zero}
use native.Mathlib.Numerals.{add-one}
use native.Mathlib.Omega.{arith}
use borrow.Author.Tests.{ne_eqb}
use lib.Dec.{leb, ltb, eqb}
use lib.IntN.{ℤ, pos, negsuc, neg_ℤ, ◌+ℤ◌, ◌-ℤ◌, +ℤ_assoc, +ℤ_idl, neg_ℤ-+ℤ}
use lib.ListN.{length}
use lib.Signed.{mag}
use Rattle.base.specs.Choice.{pick}
use Rattle.base.specs.Bytes.{byte, each}
use Rattle.base.specs.Classes.{is_digit, is_space}
use Rattle.base.proofs.Tests.{digit_range}
use Rattle.go_duration.specs.Fraction.{most}
use Rattle.go_duration.specs.Parse.{sign_of}
use Rattle.go_duration.specs.Written.{WrittenPart}
use Rattle.suggest.specs.Helpers.{seen_sum}
use Rattle.suggest.proofs.PartCuts.{Pieces, pieces_append, lower_range, digit_front, EndsLower, ends_rest, blanks_end, apart}
use Rattle.suggest.proofs.SeenForms.{signed, top, Form, front_digit}

-- ---- the sign

pub form_sign : {s : List ℕ} {neg : Bool} {ps : List WrittenPart} → Form s neg ps → eqb (byte s 0) 45 ≡ neg
form_sign {neg = neg} f = rw f.text (go neg)
  where
    go : (x : Bool) → eqb (byte (signed x f.bytes ++ f.blanks) 0) 45 ≡ x
    go true = refl
    go false =
        let h = digit_range (byte (f.bytes ++ f.blanks) 0) (front_digit f.bytes f.blanks f.digit) in
        ne_eqb (byte (f.bytes ++ f.blanks) 0) 45 (omega arith)

-- ---- together

pub join : (x y : List ℕ) {neg : Bool} {ps qs : List WrittenPart} → EndsLower x → Form x neg ps → Form y false qs → Form (x ++ y) neg (ps ++ qs)
join x y {neg = neg} l f g =
    record {
      bytes = f.bytes ++ g.bytes;
      blanks = g.blanks;
      pieces = pieces_append f.pieces g.pieces;
      digit = front_digit f.bytes g.bytes f.digit;
      blank = g.blank;
      text = rw (f.text, none, append-nil, g.text) (go neg);
    }
  where
    none : f.blanks ≡ []
    none = blanks_end f.blanks f.blank (ends_rest (signed neg f.bytes) f.blanks (subst EndsLower f.text l))

    go : (x : Bool) → signed x f.bytes ++ (g.bytes ++ g.blanks) ≡ signed x (f.bytes ++ g.bytes) ++ g.blanks
    go true = ap (λ (z : List ℕ). 45 ∷ z) (sym (append_assoc f.bytes g.bytes g.blanks))
    go false = sym (append_assoc f.bytes g.bytes g.blanks)

-- ---- apart

pub record Halves (x y : List ℕ) (neg : Bool) (ps : List WrittenPart) : Type 0 where
  pub front : List WrittenPart
  pub back : List WrittenPart
  pub whole : ps ≡ front ++ back
  pub first : Form x neg front
  pub second : Form y false back

module _ (y : List ℕ) (d : is_digit (byte y 0) ≡ true) where
  halves : (neg : Bool) {ps : List WrittenPart} {t : List ℕ} (b : List ℕ) → Pieces ps t → is_digit (byte t 0) ≡ true → each is_space b ≡ true
      → (c : ℕ) (a : List ℕ) → t ++ b ≡ (c ∷ a) ++ y → EndsLower (c ∷ a) → Halves (signed neg (c ∷ a)) y neg ps
  halves neg {t = t} b q g e c a x l =
      let r = apart y b d e q (c ∷ a) x l in
      record {
        front = r.front;
        back = r.back;
        whole = r.whole;
        first = record {
          bytes = c ∷ a;
          blanks = [];
          pieces = r.first;
          digit = rw x at (front_digit t b g);
          blank = refl;
          text = sym (append-nil (signed neg (c ∷ a)));
        };
        second = record {
          bytes = r.bytes;
          blanks = b;
          pieces = r.second;
          digit = digit_front r.bytes b (subst (λ (z : List ℕ). is_digit (byte z 0) ≡ true) r.rest d) e;
          blank = e;
          text = r.rest;
        };
      }

  pub split : (x : List ℕ) (neg : Bool) {ps : List WrittenPart} → 0 < length x → EndsLower x → Form (x ++ y) neg ps → Halves x y neg ps
  split [] neg h l f = absurd (not-suc-le-zero h)
  split (c ∷ a) false h l f = halves false f.blanks f.pieces f.digit f.blank c a (sym f.text) l
  split (c ∷ []) true h l f =
      let q : c ≡ 45 = let z = f.text in cc in
      absurd (omega (arith, lower_range c (l h)))
  split (c ∷ b ∷ a) true {ps} h l f =
      let q : c ≡ 45 = let z = f.text in cc in
      rw q (halves true f.blanks f.pieces f.digit f.blank b a (sym (ap tail f.text)) (ends_rest (c ∷ []) (b ∷ a) l))

-- ---- sums under a sign

pub sign_add : (neg : Bool) (a b : ℕ) → pick neg (sign_of neg a -ℤ pos b) (sign_of neg a +ℤ pos b) ≡ sign_of neg (a + b)
sign_add true a b = +ℤ_assoc (pos 0) (neg_ℤ (pos a)) (neg_ℤ (pos b)) ∙ ap (λ (z : ℤ). pos 0 +ℤ z) (sym (neg_ℤ-+ℤ (pos a) (pos b)))
sign_add false a b = refl

pub sum_seen : (neg : Bool) (n : ℕ) → seen_sum (sign_of neg n) ≡ pick (leb (top neg n) most) (Some (sign_of neg n)) None
sum_seen neg n = rw (test neg n)
  where
    test : (x : Bool) (n : ℕ) → ltb (mag (sign_of x n)) most ≡ leb (top x n) most
    test false n = rw add-one
    test true zero = refl
    test true (suc n) = rw (+ℤ_idl (negsuc n))
