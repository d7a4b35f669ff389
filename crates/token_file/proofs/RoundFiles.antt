-- For `RoundCalls`, and readers: for any layout with room for the numbers, then for version 1, reading a written file gives back the rows, writing what
-- was read gives back the bytes, and no two lists of rows have the same file. Assumes nothing.
use mathlib.Core.Path.{◌≡◌, refl, sym, ap, ◌∙◌}
use mathlib.Core.Bool.{Bool, true, false}
use mathlib.Core.Logic.{⊎_elim}
use mathlib.Core.List.{List, [], ◌∷◌, append-nil}
use Prim.Native.Nat.{ℕ, ◌*◌, ◌≤◌, ◌<◌}
use native.Mathlib.Omega.{arith}
use lib.Dec.{ltb, eqb}
use lib.ListN.{length, take, drop, length-drop, take-append-drop}
use lib.Seq.{drop_at, take-add, take_all}
use borrow.Author.Tests.{ltb-false, le-ltb, eqb-true, eqb-false}
use Rattle.base.specs.Bytes.{AreBytes}
use Rattle.base.proofs.Tests.{true_false, pick_second}
use Rattle.token.specs.Kind.{eof_number, illegal_number}
use Rattle.token.specs.Reason.{reason_ok}
use Rattle.token.proofs.Reasons.{reason_plain}
use Rattle.token_file.specs.Rules.{RowRules, RowsRules, largest_column, some_above}
use Rattle.token_file.specs.Format.{version1, little, file_mark, header, header_width, row_width, rows_bytes, file_of, file_width}
use Rattle.token_file.specs.Format.{number_at, file_count, file_rows, framed}
use Rattle.token_file.specs.Fits.{RowFits, RowsFit}
use Rattle.token_file.specs.declared.row.Row.{Row}
use Rattle.token_file.specs.declared.layout.Layout.{Layout}
use Rattle.token_file.proofs.Numbers.{bytes_drop, unlittle_little}
use Rattle.token_file.proofs.Pieces.{bytes_rows_length}
use Rattle.token_file.proofs.Frames.{header_length, file_length, Framed, framed_test}
use Rattle.token_file.proofs.RulesPlain.{count_small}
use Rattle.token_file.proofs.RoundRows.{rows_back, rows_forth, number_forth}

-- ---- rows, written and read

module _ (y : Layout) (rs : List Row) where
  pub count_back : length rs < 0x100000000 → file_count (file_of y rs) ≡ length rs
  unfolding file_count file_of header little
  count_back h = unlittle_little 4 (length rs) h

  version_back : y.version < 65536 → number_at (file_of y rs) 3 2 ≡ y.version
  unfolding file_of header little
  version_back h = unlittle_little 2 y.version h

  mark_back : take 3 (file_of y rs) ≡ file_mark
  unfolding file_of header
  mark_back = refl

  rows_follow : drop header_width (file_of y rs) ≡ rows_bytes y rs
  unfolding file_of
  rows_follow = drop_at (header y (length rs)) (rows_bytes y rs) header_width (header_length y (length rs))

  module _ (n : length rs < 0x100000000) where
    -- the file of rows has a right frame
    pub framed_back : y.version < 65536 → framed y (file_of y rs) ≡ true
    unfolding file_width
    framed_back v =
        framed_test y (file_of y rs)
        (record {
          long = omega (arith, file_length y rs);
          mark = mark_back;
          version = version_back v;
          width = file_length y rs ∙ ap (file_width y) (sym (count_back n));
        })

    -- and its rows are those
    pub rows_of_file : RowsFit y rs → file_rows y (file_of y rs) ≡ rs
    unfolding file_rows
    rows_of_file h = rw (count_back n, rows_follow) (rw append-nil at (rows_back y rs [] h))

-- no two lists of rows have the same file
pub file_injective : (y : Layout) (rs qs : List Row) → length rs < 0x100000000 → length qs < 0x100000000 → RowsFit y rs → RowsFit y qs
    → file_of y rs ≡ file_of y qs → rs ≡ qs
file_injective y rs qs n m f g e = sym (rows_of_file y rs n f) ∙ ap (file_rows y) e ∙ rows_of_file y qs m g

-- ---- bytes, read and written

module _ (y : Layout) (file : List ℕ) (b : AreBytes file) (f : Framed y file) where
  header_forth : header y (file_count file) ≡ take header_width file
  unfolding header file_count
  header_forth =
      let l = f.long in
      rw (
        take-add 5 4 file,
        take-add 3 2 file,
        ← f.version,
        number_forth file b 3 2 (omega arith),
        number_forth file b 5 4 (omega arith),
        f.mark,
      )

  rows_forth_file : rows_bytes y (file_rows y file) ≡ drop header_width file
  unfolding file_rows file_width
  rows_forth_file =
      let l = f.long in
      let w = f.width in
      let d = length-drop header_width file in
      let n : length (drop header_width file) ≡ row_width y * file_count file = omega arith in
      rows_forth y (file_count file) (drop header_width file) (bytes_drop header_width file b) (omega arith)
      ∙ take_all (row_width y * file_count file) (drop header_width file) (omega arith)

  -- the file of the rows of a file is that file
  pub file_of_rows : file_of y (file_rows y file) ≡ file
  unfolding file_of file_rows
  file_of_rows =
      rw (bytes_rows_length y (file_count file) (drop header_width file), header_forth, rows_forth_file) (take-append-drop header_width file)

-- ---- version 1

below_end : {ok : ℕ → ℕ → Bool} {prev : ℕ} (r : Row) → RowRules ok prev r → r.start ≤ r.end
below_end r h = go (eqb r.kind eof_number) refl
  where
    go : (b : Bool) → eqb r.kind eof_number ≡ b → r.start ≤ r.end
    go true e = omega (arith, h.span_eof (eqb-true r.kind eof_number e))
    go false e = omega (arith, h.span_other (eqb-false r.kind eof_number e))

-- no column is above the bound: the first is not, nor is another
columns_first : (bound : ℕ) (r : Row) (rs : List Row) → some_above bound (r ∷ rs) ≡ false → (r.column ≤ bound) × (some_above bound rs ≡ false)
columns_first bound r rs t =
    let c = pick_second (ltb bound r.column) (λ e. true_false true refl e) t in
    (ltb-false bound r.column c.0, c.1)

column_short : (r : Row) → RowFits version1 r → r.column ≤ largest_column
unfolding version1
column_short r f = omega (arith, f.column)

-- rows with room in version 1 have no long column
pub columns_fit : (rs : List Row) → RowsFit version1 rs → some_above largest_column rs ≡ false
columns_fit [] h = refl
columns_fit (r ∷ rs) (RowsFit.some f g) = rw (le-ltb largest_column r.column (column_short r f)) (columns_fit rs g)

-- the file of rows that keep the rules has a right frame
pub file_framed1 : {ok : ℕ → ℕ → Bool} {rs : List Row} → RowsRules ok 0 rs → framed version1 (file_of version1 rs) ≡ true
unfolding version1
file_framed1 {rs = rs} w = framed_back version1 rs (omega (arith, count_small w)) (omega arith)

-- what the test of kind and reason lets pass has room in the reason's byte
module _ {ok : ℕ → ℕ → Bool} (small : (k r : ℕ) → ok k r ≡ true → r < 256) where
  row_fits1 : {prev : ℕ} (r : Row) → RowRules ok prev r → r.column ≤ largest_column → RowFits version1 r
  unfolding version1
  row_fits1 r h s =
      omega (arith, h.kind, small r.kind r.reason h.reason, h.end, below_end r h, h.line.1)

  -- then rows that keep the rules, with columns that are not too long, have room in version 1
  pub rows_fit1 : {prev : ℕ} {rs : List Row} → RowsRules ok prev rs → some_above largest_column rs ≡ false → RowsFit version1 rs
  rows_fit1 (RowsRules.last {r = r} k h) s = RowsFit.some (row_fits1 r h (columns_first largest_column r [] s).0) RowsFit.none
  rows_fit1 (RowsRules.more {r = r} {q = q} {rs = rs} k h w) s =
      let c = columns_first largest_column r (q ∷ rs) s in
      RowsFit.some (row_fits1 r h c.0) (rows_fit1 w c.1)

  -- and come back from their file
  pub file_rows1 : {rs : List Row} → RowsRules ok 0 rs → some_above largest_column rs ≡ false → file_rows version1 (file_of version1 rs) ≡ rs
  file_rows1 {rs} w s = rows_of_file version1 rs (omega (arith, count_small w)) (rows_fit1 w s)

-- ---- version 1, with the test of kind and reason that both calls make

pub reason_below : (k r : ℕ) → reason_ok k r ≡ true → r < 256
reason_below k r t = go (eqb k illegal_number) refl
  where
    go : (b : Bool) → eqb k illegal_number ≡ b → r < 256
    go true e = ⊎_elim (λ i. omega (arith, i.1)) (λ q. omega (arith, q)) ((reason_plain k r t).illegal (eqb-true k illegal_number e))
    go false e = omega (arith, (reason_plain k r t).other (eqb-false k illegal_number e))

-- two lists of rows that keep the rules, with no long column, and the same file: they are equal
pub file_injective1 : {rs qs : List Row} → RowsRules reason_ok 0 rs → some_above largest_column rs ≡ false
    → RowsRules reason_ok 0 qs → some_above largest_column qs ≡ false → file_of version1 rs ≡ file_of version1 qs → rs ≡ qs
file_injective1 {rs} {qs} w s v t =
    file_injective version1 rs qs (omega (arith, count_small w)) (omega (arith, count_small v)) (rows_fit1 reason_below w s) (rows_fit1 reason_below v t)
