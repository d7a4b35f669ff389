-- For the writer, the reader and the round trips: how long a file is, and the test of its frame in plain facts, both ways. Any layout. Assumes nothing.
use mathlib.Core.Path.{◌≡◌, refl, ◌∙◌}
use mathlib.Core.Bool.{Bool, true, ◌&&◌}
use mathlib.Core.List.{List}
use Prim.Native.Nat.{ℕ, ◌≤◌}
use native.Mathlib.Omega.{arith}
use lib.Dec.{leb, eqb}
use lib.ListN.{length, take, length-append}
use borrow.Author.Tests.{leb-true, le-leb, eqb-true, eq-eqb}
use Rattle.base.specs.Bytes.{same_bytes}
use Rattle.base.proofs.Tests.{and_left, and_right}
use Rattle.base.proofs.Words.{same_eq, same_refl}
use Rattle.token_file.specs.Format.{little, number_at, file_mark, header, header_width, rows_bytes, file_of, file_width, file_count, framed}
use Rattle.token_file.specs.declared.row.Row.{Row}
use Rattle.token_file.specs.declared.layout.Layout.{Layout}
use Rattle.token_file.proofs.Pieces.{rows_bytes_length}

pub header_length : (y : Layout) (n : ℕ) → length (header y n) ≡ header_width
unfolding header little
header_length y n = refl

pub file_length : (y : Layout) (rs : List Row) → length (file_of y rs) ≡ file_width y (length rs)
unfolding file_of file_width
file_length y rs = omega (arith, length-append (header y (length rs)) (rows_bytes y rs), header_length y (length rs), rows_bytes_length y rs)

-- what a right frame has
pub record Framed (y : Layout) (file : List ℕ) : Type 0 where
  pub long : header_width ≤ length file
  pub mark : take 3 file ≡ file_mark
  pub version : number_at file 3 2 ≡ y.version
  pub width : length file ≡ file_width y (file_count file)

module _ (y : Layout) (file : List ℕ) where
  framed_all : (p q r s : Bool) → leb header_width (length file) ≡ p → same_bytes (take 3 file) file_mark ≡ q → eqb (number_at file 3 2) y.version ≡ r
      → eqb (length file) (file_width y (file_count file)) ≡ s → p && (q && (r && s)) ≡ true → Framed y file
  framed_all p q r s ep eq er es t =
      let t₁ = and_right p (q && (r && s)) t in
      let t₂ = and_right q (r && s) t₁ in
      record {
        long = leb-true header_width (length file) (ep ∙ and_left p (q && (r && s)) t);
        mark = same_eq (take 3 file) file_mark (eq ∙ and_left q (r && s) t₁);
        version = eqb-true (number_at file 3 2) y.version (er ∙ and_left r s t₂);
        width = eqb-true (length file) (file_width y (file_count file)) (es ∙ and_right r s t₂);
      }

  -- the test is true exactly where the frame is right
  pub framed_plain : framed y file ≡ true → Framed y file
  unfolding framed
  framed_plain t = framed_all _ _ _ _ refl refl refl refl t

  pub framed_test : Framed y file → framed y file ≡ true
  unfolding framed
  framed_test h =
      rw (
        le-leb header_width (length file) h.long,
        h.mark,
        same_refl file_mark,
        eq-eqb (number_at file 3 2) y.version h.version,
        eq-eqb (length file) (file_width y (file_count file)) h.width,
      )
