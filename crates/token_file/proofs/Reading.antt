-- For `read_token_file`: its answers, a law for each, in the order of its checks. A refusal leaves the buffer as it was. By rewriting. Assumes nothing.
use mathlib.Core.Path.{◌≡◌, refl, sym, ◌∙◌}
use mathlib.Core.Bool.{true, false}
use mathlib.Core.List.{List}
use Prim.Native.Nat.{ℕ, ◌*◌, ◌/◌, ◌≤◌, ◌<◌}
use native.Mathlib.Omega.{arith}
use lib.IntN.{ℤ}
use Rattle.std.specs.Prelude.{Ok, Err}
use lib.ListN.{length, drop}
use lib.Seq.{sets}
use borrow.Author.Tests.{lt-ltb, le-ltb}
use Rattle.base.proofs.Stores.{overlaid}
use Rattle.token.specs.Layout.{record_width}
use Rattle.token.specs.Reason.{reason_ok}
use Rattle.token_file.specs.Rules.{rows_ok, rows_numbers}
use Rattle.token_file.specs.Format.{version1, file_count, file_rows, bytes_rows, header_width, framed}
use Rattle.token_file.specs.Fits.{FrameRead}
use Rattle.token_file.specs.Calls.{read_answer, ReadsFile}
use Rattle.token_file.specs.declared.layout.Layout.{Layout}
use Rattle.token_file.specs.declared.read.ReadRefusal.TheVariants as read
use Rattle.token_file.proofs.Pieces.{numbers_length, bytes_rows_length}

module _ {file : List ℕ} {y : Layout} (e : y ≡ version1) where
  pub read_bad_file : {tokens : List ℤ} → framed y file ≡ false → ReadsFile file tokens (Err read.BadFile) tokens
  unfolding read_answer
  read_bad_file f = let g : framed version1 file ≡ false = rw e at f in record { answer = rw g; buffer = refl }

  module _ {file' : List ℕ} {y' : Layout} {n : ℕ} (f : FrameRead y file file' y' n) where
    right : framed version1 file ≡ true
    right = rw e at f.right

    rows_read : bytes_rows y' n (drop header_width file') ≡ file_rows version1 file
    unfolding file_rows
    rows_read = rw (f.same_layout, f.same_file, f.counted, e)

    pub read_bad_records : {tokens : List ℤ} → rows_ok reason_ok 0 (bytes_rows y' n (drop header_width file')) ≡ false
        → ReadsFile file tokens (Err read.BadRecords) tokens
    unfolding read_answer
    read_bad_records k =
        let q : rows_ok reason_ok 0 (file_rows version1 file) ≡ false = rw rows_read at k in
        record { answer = rw (right, q); buffer = refl }

    module _ (k : rows_ok reason_ok 0 (bytes_rows y' n (drop header_width file')) ≡ true) where
      ruled : rows_ok reason_ok 0 (file_rows version1 file) ≡ true
      ruled = rw rows_read at k

      pub read_no_room : {tokens : List ℤ} → length tokens / record_width < n → ReadsFile file tokens (Err read.NoRoom) tokens
      unfolding read_answer
      read_no_room {tokens} h =
          record { answer = rw (right, ruled, ← f.counted, lt-ltb (length tokens) (n * record_width) (omega arith)); buffer = refl }

      pub read_all : {tokens : List ℤ} → n ≤ length tokens / record_width → {tokens' : List ℤ}
          → tokens' ≡ sets tokens 0 (rows_numbers (bytes_rows y' n (drop header_width file'))) → ReadsFile file tokens (Ok n) tokens'
      unfolding read_answer file_rows
      read_all {tokens} h p =
          let rs = file_rows version1 file in
          let l = numbers_length rs in
          let m : length rs ≡ n = bytes_rows_length version1 (file_count file) (drop header_width file) ∙ sym f.counted in
          record {
            answer = rw (right, ruled, ← f.counted, le-ltb (length tokens) (n * record_width) (omega arith));
            buffer = (rw rows_read at p) ∙ overlaid (rows_numbers rs) tokens (omega arith);
          }
