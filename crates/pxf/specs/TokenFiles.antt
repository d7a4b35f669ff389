-- What the functions on token files give to a C program: document 01's number of the answer, its value, and the buffer after the call.
use Rattle.std.specs.Prelude.{◌≡◌, List, ℕ, ℤ, length}
use Rattle.token_file.specs.Rules.{rows_of, rows_numbers}
use Rattle.token_file.specs.Format.{version1, file_of, file_rows}
use Rattle.base.specs.Buffers.{after}
use Rattle.token_file.specs.Calls.{write_answer, read_answer, written_number, written_value, loaded_number, loaded_value}
use Rattle.pxf.specs.Answers.{one_value}

-- `pxf_write_token_file`: the number, the bytes written, the file
pub record FileWritten (records : List ℤ) (count : ℕ) (out : List ℕ) (r : ℕ) (out' : List ℕ) (answer' : List ℤ) : Type 0 where
  pub number : r ≡ written_number (write_answer records count (length out))
  pub answer : answer' ≡ one_value (written_value (write_answer records count (length out)))
  pub buffer : out' ≡ after (written_number (write_answer records count (length out))) (file_of version1 (rows_of count records)) out

-- `pxf_read_token_file`: the number, the count, the records
pub record FileRead (file : List ℕ) (tokens : List ℤ) (r : ℕ) (tokens' answer' : List ℤ) : Type 0 where
  pub number : r ≡ loaded_number (read_answer file (length tokens))
  pub answer : answer' ≡ one_value (loaded_value (read_answer file (length tokens)))
  pub buffer : tokens' ≡ after (loaded_number (read_answer file (length tokens))) (rows_numbers (file_rows version1 file)) tokens
