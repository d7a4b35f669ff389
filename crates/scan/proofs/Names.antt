-- For the crate above, `lexer`: names and directives are within the text, end between characters and stay on their line. By their runs.
-- Assumes nothing.
use mathlib.Core.Path.{◌≡◌, refl}
use mathlib.Core.Bool.{true, false, ◌||◌}
use mathlib.Core.List.{List}
use Prim.Native.Nat.{ℕ, ◌-◌, zero-le}
use native.Mathlib.Omega.{arith}
use lib.Dec.{eqb}
use lib.ListN.{take, drop}
use Rattle.base.specs.Bytes.{byte, same_bytes}
use Rattle.base.specs.Classes.{is_digit, is_ident_start, is_ident_part}
use Rattle.base.specs.Runs.{reach}
use Rattle.base.proofs.Reaches.{reach_ge, reach_le, reach_one}
use Rattle.base.proofs.Tests.{pick_case, in_text}
use Rattle.token.specs.Kind.{kind_number}
use Rattle.token.specs.Helpers.{Flat}
use Rattle.token.specs.declared.kind.TokenKind.{TokenKind}
use Rattle.token.specs.declared.kind.TokenKind.TheVariants as K
use Rattle.token.specs.declared.reason.Reason.TheVariants as R
use Rattle.lexeme.specs.Lexeme.{whole}
use Rattle.utf8.proofs.Boundaries.{ascii_boundary}
use Rattle.scan.specs.Run.{in_name}
use Rattle.scan.specs.Name.{true_word, false_word, null_word, type_word, dataset_word, proto_word, name_kind, lex_ident, directive, lex_directive}
use Rattle.scan.proofs.Runs.{name_boundary}
use Rattle.scan.proofs.Flats.{flat_none, flat_byte, flat_run}
use Rattle.scan.proofs.Scanned.{Plain, plain, OnLine, Ends, extent_scanned, whole_scanned, illegal_scanned}

name_plain : (w : List ℕ) → Plain (name_kind w)
unfolding name_kind kind_number
name_plain w =
    pick_case Plain (same_bytes w true_word || same_bytes w false_word) (λ e. plain K.Bool refl)
    (λ e. pick_case Plain (same_bytes w null_word) (λ e. plain K.Null refl) (λ e. plain K.Ident refl))

start_part : (a : ℕ) → is_ident_start a ≡ true → is_ident_part a ≡ true
unfolding is_ident_part
start_part a e = rw e

no_start : is_ident_start 0 ≡ false
unfolding is_ident_start
no_start = refl

-- a name has no newline
name_flat : (s : List ℕ) (i : ℕ) → Flat s i → Flat s (reach in_name s i)
unfolding is_ident_part is_ident_start is_digit
name_flat s = flat_run s in_name (λ b. refl)

pub ident_on_line : (s : List ℕ) → is_ident_start (byte s 0) ≡ true → OnLine s (lex_ident s)
unfolding lex_ident
ident_on_line s e =
    let n = reach in_name s 0 in
    let g = reach_one in_name s 0 (in_text is_ident_start s 0 no_start e) (start_part (byte s 0) e) in
    record {
      scanned =
          whole_scanned s n (record { some = omega arith; inside = reach_le in_name s 0 zero-le; between = name_boundary s 0 })
          (name_kind (take n s)) (name_plain (take n s));
      flat = name_flat s 0 (flat_none s);
    }

named_on_line : (w s : List ℕ) (n : ℕ) → Ends s n → Flat s n → OnLine s (directive w n)
unfolding directive kind_number
named_on_line w s n e f =
    let line : (k : TokenKind) → Plain k → OnLine s (whole k n) = λ k p. record { scanned = whole_scanned s n e k p; flat = f } in
    pick_case (OnLine s) (same_bytes w type_word) (λ q. line K.AtType (plain K.AtType refl))
    (λ q. pick_case (OnLine s) (same_bytes w dataset_word) (λ q. line K.AtDataset (plain K.AtDataset refl))
    (λ q. pick_case (OnLine s) (same_bytes w proto_word) (λ q. line K.AtProto (plain K.AtProto refl))
    (λ q. record {
      scanned = extent_scanned s n e K.AtDirective 1 (n - 1) 0 (plain K.AtDirective refl) (omega (arith, e.some)) (omega arith);
      flat = f;
    })))

pub directive_on_line : (s : List ℕ) → byte s 0 ≡ 64 → OnLine s (lex_directive s)
unfolding lex_directive
directive_on_line s a =
    let n = reach in_name s 1 in
    let g = reach_ge in_name s 1 in
    let t : eqb (byte s 0) 64 ≡ true = rw a in
    let h = in_text (λ x. eqb x 64) s 0 refl t in
    let b = ascii_boundary s 0 h (omega arith) in
    let f = flat_byte s (λ x. eqb x 64) refl 0 t (flat_none s) in
    pick_case (OnLine s) (eqb n 1)
    (λ e. record {
      scanned =
          illegal_scanned s 1 (record { some = omega arith; inside = omega arith; between = b }) R.AtWithoutName 0 (λ q. cc) (omega arith);
      flat = f;
    })
    (λ e. named_on_line (take (n - 1) (drop 1 s)) s n
    (record { some = omega arith; inside = reach_le in_name s 1 (omega arith); between = λ c. name_boundary s 1 (b c) })
    (name_flat s 1 f))
