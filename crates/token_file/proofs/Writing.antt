-- For `write_token_file`: its answers, a law for each, in the order of its checks. A refusal leaves the buffer as it was. By rewriting. Assumes nothing.
use mathlib.Core.Path.{◌≡◌, refl, sym, ap, ◌∙◌}
use mathlib.Core.Bool.{true, false}
use mathlib.Core.List.{List, ◌++◌, map}
use Prim.Native.Nat.{ℕ, ◌+◌, ◌*◌, ◌≤◌, ◌<◌}
use native.Mathlib.Omega.{arith}
use lib.IntN.{ℤ}
use Rattle.std.specs.Prelude.{Ok, Err}
use lib.ListN.{length}
use lib.Seq.{sets}
use borrow.Author.Tests.{lt-ltb, le-ltb}
use Rattle.base.proofs.Stores.{sets_append, overlaid}
use Rattle.token.specs.Layout.{record_width}
use Rattle.token_file.specs.Rules.{row_at, rows_of, largest_column, some_above}
use Rattle.token_file.specs.Format.{version1, row_width, file_width, header, header_width, rows_bytes, file_of}
use Rattle.token_file.specs.Fits.{CheckedRecords}
use Rattle.token_file.specs.Calls.{records_ok, write_answer, WritesFile}
use Rattle.token_file.specs.declared.layout.Layout.{Layout}
use Rattle.token_file.specs.declared.write.WriteRefusal.TheVariants as write
use Rattle.token_file.proofs.Frames.{header_length, file_length}
use Rattle.token_file.proofs.Pieces.{rows_length, rows_of_chunks, chunks_length}
use Rattle.token_file.proofs.RulesPlain.{records_plain}

-- nine bytes, and sixteen for each token
pub width1 : {y : Layout} (n : ℕ) → y ≡ version1 → file_width y n ≡ 9 + 16 * n
unfolding file_width row_width version1
width1 n e = rw e

-- ---- the records that are checked

module _ {records : List ℤ} {count : ℕ} {checked : List (List ℤ)} (k : CheckedRecords records count checked) where
  rows_checked : map row_at checked ≡ rows_of count records
  rows_checked = rw k.are (rows_of_chunks count records)

  pub checked_length : length checked ≡ count
  checked_length = rw k.are (chunks_length count records)

  -- the slice has them all
  pub checked_slice : count * record_width ≤ length records
  checked_slice = (records_plain records count k.rules).slice

-- ---- the answers

module _ {records : List ℤ} {count : ℕ} {out : List ℕ} where
  pub write_bad : records_ok records count ≡ false → WritesFile records count out (Err write.BadRecords) out
  unfolding write_answer
  write_bad k = record { answer = rw k; buffer = refl }

  module _ {checked : List (List ℤ)} (k : CheckedRecords records count checked) where
    pub write_long : some_above largest_column (map row_at checked) ≡ true → WritesFile records count out (Err write.LongColumn) out
    unfolding write_answer
    write_long s =
        let t : some_above largest_column (rows_of count records) ≡ true = rw (rows_checked k) at s in
        record { answer = rw (k.rules, t); buffer = refl }

    module _ (s : some_above largest_column (map row_at checked) ≡ false) {y : Layout} (e : y ≡ version1) {n : ℕ} (w : n ≡ file_width y count) where
      pub write_no_room : length out < n → WritesFile records count out (Err write.NoRoom) out
      unfolding write_answer
      write_no_room h =
          let q : n ≡ file_width version1 count = rw e at w in
          let t : some_above largest_column (rows_of count records) ≡ false = rw (rows_checked k) at s in
          record { answer = rw (k.rules, t, ← q, lt-ltb (length out) n h); buffer = refl }

      pub write_all : n ≤ length out → {out₁ out₂ : List ℕ} → out₁ ≡ sets out 0 (header y count)
          → out₂ ≡ sets out₁ header_width (rows_bytes y (map row_at checked)) → WritesFile records count out (Ok n) out₂
      unfolding write_answer file_of
      write_all h {out₁} {out₂} p₁ p₂ =
          let q : n ≡ file_width version1 count = rw e at w in
          let t : some_above largest_column (rows_of count records) ≡ false = rw (rows_checked k) at s in
          let rs = rows_of count records in
          let f : length (file_of version1 rs) ≡ n = file_length version1 rs ∙ rw (rows_length count records) (sym q) in
          let j : sets out 0 (header version1 count ++ rows_bytes version1 rs) ≡ sets (sets out 0 (header version1 count)) header_width
          (rows_bytes version1 rs) =
          rw (header_length version1 count) at (sets_append out 0 (header version1 count) (rows_bytes version1 rs)) in
          let g : header version1 count ++ rows_bytes version1 rs ≡ file_of version1 rs = rw (rows_length count records) in
          let r : out₂ ≡ sets (sets out 0 (header version1 count)) header_width (rows_bytes version1 rs) = p₂ ∙ rw (p₁, e, rows_checked k) in
          record {
            answer = rw (k.rules, t, ← q, le-ltb (length out) n h);
            buffer = r ∙ sym j ∙ ap (sets out 0) g ∙ overlaid (file_of version1 rs) out (omega arith);
          }
