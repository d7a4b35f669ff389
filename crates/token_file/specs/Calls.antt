-- What the writer and the reader of token files answer, and what their buffers hold then.
use Rattle.std.specs.Prelude.{◌≡◌, Bool, ◌&&◌, List, ℕ, ◌*◌, leb, ltb, ℤ, Result, Ok, Err, length}
use Rattle.base.specs.Choice.{pick}
use Rattle.base.specs.Answers.{answer_number, answer_value}
use Rattle.base.specs.Buffers.{after}
use Rattle.token.specs.Layout.{record_width}
use Rattle.token.specs.Reason.{reason_ok}
use Rattle.token_file.specs.Rules.{rows_of, natural_rows, rows_numbers, rows_ok, largest_column, some_above}
use Rattle.token_file.specs.Format.{version1, file_of, file_width, file_count, file_rows, framed}
use Rattle.token_file.specs.declared.write.WriteRefusal.{WriteRefusal}
use Rattle.token_file.specs.declared.write.WriteRefusal.TheVariants as write
use Rattle.token_file.specs.declared.read.ReadRefusal.{ReadRefusal}
use Rattle.token_file.specs.declared.read.ReadRefusal.TheVariants as read

-- Types of the code (src/write.rt, src/read.rt). `WriteRefusal`, why nothing is written: `BadRecords`, `LongColumn`, `NoRoom`. `ReadRefusal`, why nothing is
-- read: `BadFile`, `BadRecords`, `NoRoom`.

-- the slice holds so many records, and they keep the rules: "The writer gets a slice and a count; too short a slice is 8"
unfoldable pub records_ok : List ℤ → ℕ → Bool
records_ok records count = leb (count * record_width) (length records) && (natural_rows count records && rows_ok reason_ok 0 (rows_of count records))

-- "the file writer 8, 9, 10"
unfoldable pub write_answer : List ℤ → ℕ → ℕ → Result ℕ WriteRefusal
write_answer records count room =
    pick (records_ok records count)
    (pick (some_above largest_column (rows_of count records)) (Err write.LongColumn)
    (pick (ltb room (file_width version1 count)) (Err write.NoRoom) (Ok (file_width version1 count))))
    (Err write.BadRecords)

-- "the file reader 7, 8, 4"
unfoldable pub read_answer : List ℕ → ℕ → Result ℕ ReadRefusal
read_answer file room =
    pick (framed version1 file)
    (pick (rows_ok reason_ok 0 (file_rows version1 file))
    (pick (ltb room (file_count file * record_width)) (Err read.NoRoom) (Ok (file_count file)))
    (Err read.BadRecords))
    (Err read.BadFile)

-- document 01's number of each refusal
abbrev pub write_refusal_number : WriteRefusal → ℕ
write_refusal_number write.BadRecords = 8
write_refusal_number write.LongColumn = 9
write_refusal_number write.NoRoom = 10

abbrev pub read_refusal_number : ReadRefusal → ℕ
read_refusal_number read.BadFile = 7
read_refusal_number read.BadRecords = 8
read_refusal_number read.NoRoom = 4

-- document 01's number of each answer, 0 where the call is accepted
abbrev pub written_number : Result ℕ WriteRefusal → ℕ
written_number = answer_number write_refusal_number

abbrev pub loaded_number : Result ℕ ReadRefusal → ℕ
loaded_number = answer_number read_refusal_number

-- document 01's value of each answer: "gives the bytes written", "gives the count"; a refusal gives none
abbrev pub written_value : Result ℕ WriteRefusal → ℕ
written_value = answer_value

abbrev pub loaded_value : Result ℕ ReadRefusal → ℕ
loaded_value = answer_value

-- the writer's contract
pub record WritesFile (records : List ℤ) (count : ℕ) (out : List ℕ) (r : Result ℕ WriteRefusal) (out' : List ℕ) : Type 0 where
  pub answer : r ≡ write_answer records count (length out)
  pub buffer : out' ≡ after (written_number r) (file_of version1 (rows_of count records)) out

-- the reader's contract
pub record ReadsFile (file : List ℕ) (tokens : List ℤ) (r : Result ℕ ReadRefusal) (tokens' : List ℤ) : Type 0 where
  pub answer : r ≡ read_answer file (length tokens)
  pub buffer : tokens' ≡ after (loaded_number r) (rows_numbers (file_rows version1 file)) tokens
