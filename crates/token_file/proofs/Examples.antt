-- The definitions run on worked examples: three records and their file, and what one changed number makes of them. antt computes both sides.
-- Assumes nothing.
use mathlib.Core.Path.{◌≡◌, refl}
use mathlib.Core.List.{List, [], ◌∷◌, ◌++◌, map}
use Prim.Native.Nat.{ℕ, ◌+◌, ◌*◌, ◌-◌}
use Rattle.std.specs.Prelude.{Ok, Err}
use lib.IntN.{ℤ, pos, negsuc}
use lib.ListN.{drop, set}
use Rattle.base.specs.Bytes.{same_bytes}
use Rattle.token.specs.Layout.{record_width}
use Rattle.token_file.specs.Rules.{row_at, rows_of, natural_row, natural_rows, row_ok, rows_ok, rows_numbers}
use Rattle.token_file.specs.Format.{little, version1, row_width, row_bytes, rows_bytes, header, file_of, file_width}
use Rattle.token_file.specs.Format.{unlittle, bytes_row, bytes_rows, file_count, file_rows, framed}
use Rattle.token_file.specs.Calls.{records_ok, write_answer, read_answer}
use Rattle.token_file.specs.declared.write.WriteRefusal.TheVariants as write
use Rattle.token_file.specs.declared.read.ReadRefusal.TheVariants as read

-- a record of these kept numbers; the numbers that no file keeps are arbitrary
abbrev given : ℕ → ℕ → ℕ → ℕ → ℕ → ℕ → List ℤ
given k r s e l c = pos k ∷ pos r ∷ pos 7 ∷ pos s ∷ pos e ∷ pos l ∷ pos c ∷ negsuc 0 ∷ negsuc 1 ∷ pos 0 ∷ pos 0 ∷ negsuc 2 ∷ []

-- the record that reading makes of them
abbrev filled_in : ℕ → ℕ → ℕ → ℕ → ℕ → ℕ → List ℤ
filled_in k r s e l c = pos k ∷ pos r ∷ pos 0 ∷ pos s ∷ pos e ∷ pos l ∷ pos c ∷ pos 0 ∷ pos 0 ∷ pos 0 ∷ pos 0 ∷ pos 0 ∷ []

-- an Ident at 0..1, an Illegal of reason 18 at 2..300 in column 258, and the Eof
abbrev three : List ℤ
three = given 4 0 0 1 1 1 ++ given 1 18 2 300 1 258 ++ given 0 0 300 300 2 1

-- their file
abbrev bytes : List ℕ
bytes =
    79 ∷ 70 ∷ 84 ∷ 1 ∷ 0 ∷ 3 ∷ 0 ∷ 0 ∷ 0
    ∷ 4 ∷ 0 ∷ 0 ∷ 0 ∷ 0 ∷ 0 ∷ 1 ∷ 0 ∷ 0 ∷ 0 ∷ 1 ∷ 0 ∷ 0 ∷ 0 ∷ 1 ∷ 0
    ∷ 1 ∷ 18 ∷ 2 ∷ 0 ∷ 0 ∷ 0 ∷ 44 ∷ 1 ∷ 0 ∷ 0 ∷ 1 ∷ 0 ∷ 0 ∷ 0 ∷ 2 ∷ 1
    ∷ 0 ∷ 0 ∷ 44 ∷ 1 ∷ 0 ∷ 0 ∷ 44 ∷ 1 ∷ 0 ∷ 0 ∷ 2 ∷ 0 ∷ 0 ∷ 0 ∷ 1 ∷ 0 ∷ []

pub example_file : file_of version1 (rows_of 3 three) ≡ bytes
unfolding file_of version1 rows_of row_at header little rows_bytes row_bytes
example_file = refl

pub example_rows : rows_numbers (file_rows version1 bytes) ≡ filled_in 4 0 0 1 1 1 ++ filled_in 1 18 2 300 1 258 ++ filled_in 0 0 300 300 2 1
unfolding file_rows version1 file_count unlittle bytes_rows bytes_row row_width
example_rows = refl

-- counts 3, 2, 0 and 4 of the three records, with room for them, and 3 with one byte too few
pub example_counts : write_answer three 3 57 ∷ write_answer three 2 57 ∷ write_answer three 0 57 ∷ write_answer three 4 100 ∷ write_answer three 3 56 ∷ []
    ≡ Ok 57 ∷ Err write.BadRecords ∷ Err write.BadRecords ∷ Err write.BadRecords ∷ Err write.NoRoom ∷ []
unfolding write_answer records_ok rows_of row_at natural_rows natural_row rows_ok row_ok file_width row_width version1
example_counts = refl

-- one number changed: a start below 0, a start before the previous end, an Ident that is empty, columns 65,535 and 65,536, a kind 26, an Eof that is
-- not last, a number that no file keeps
pub example_changes : map (λ (l : List ℤ). write_answer l 3 57)
    (set three 3 (negsuc 0) ∷ set three (record_width + 3) (pos 0) ∷ set three 4 (pos 0) ∷ set three (record_width + 6) (pos 65535)
    ∷ set three (record_width + 6) (pos 65536) ∷ set three 0 (pos 26) ∷ set three 0 (pos 0) ∷ set three 2 (pos 9) ∷ [])
    ≡ Err write.BadRecords ∷ Err write.BadRecords ∷ Err write.BadRecords ∷ Ok 57
    ∷ Err write.LongColumn ∷ Err write.BadRecords ∷ Err write.BadRecords ∷ Ok 57 ∷ []
unfolding write_answer records_ok rows_of row_at natural_rows natural_row rows_ok row_ok file_width row_width version1
example_changes = refl

-- the Illegal's reason changed to 0, 1, 19, 20, 21 and 22
pub example_reasons : map (λ (r : ℕ). write_answer (set three (record_width + 1) (pos r)) 3 57) (0 ∷ 1 ∷ 19 ∷ 20 ∷ 21 ∷ 22 ∷ [])
    ≡ Err write.BadRecords ∷ Ok 57 ∷ Err write.BadRecords ∷ Err write.BadRecords ∷ Ok 57 ∷ Err write.BadRecords ∷ []
unfolding write_answer records_ok rows_of row_at natural_rows natural_row rows_ok row_ok file_width row_width version1
example_reasons = refl

-- the file with one byte changed: none, the mark, the version, the count, a column 0, the first byte left out
pub example_reads : map (λ (l : List ℕ). read_answer l (3 * record_width))
    (bytes ∷ set bytes 0 80 ∷ set bytes 3 2 ∷ set bytes 5 2 ∷ set bytes 23 0 ∷ drop 1 bytes ∷ [])
    ≡ Ok 3 ∷ Err read.BadFile ∷ Err read.BadFile ∷ Err read.BadFile ∷ Err read.BadRecords ∷ Err read.BadFile ∷ []
unfolding read_answer framed same_bytes file_rows version1 file_count unlittle bytes_rows bytes_row row_width file_width rows_ok row_ok
example_reads = refl

-- the byte of the Illegal's reason changed to 0, 1, 19, 20, 21 and 22
pub example_reasons_read : map (λ (r : ℕ). read_answer (set bytes 26 r) (3 * record_width)) (0 ∷ 1 ∷ 19 ∷ 20 ∷ 21 ∷ 22 ∷ [])
    ≡ Err read.BadRecords ∷ Ok 3 ∷ Err read.BadRecords ∷ Err read.BadRecords ∷ Ok 3 ∷ Err read.BadRecords ∷ []
unfolding read_answer framed same_bytes file_rows version1 file_count unlittle bytes_rows bytes_row row_width file_width rows_ok row_ok
example_reasons_read = refl

pub example_room : read_answer bytes (3 * record_width - 1) ≡ Err read.NoRoom
unfolding read_answer framed same_bytes file_rows version1 file_count unlittle bytes_rows bytes_row row_width file_width rows_ok row_ok
example_room = refl
