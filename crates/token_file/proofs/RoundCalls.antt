-- For readers, and `AnswerBounds`: the two calls undo each other. Reading what was written gives back the six kept numbers, and writing what was read gives
-- back the bytes. From the contracts of the calls and the laws of files. Assumes nothing.
use mathlib.Core.Path.{◌≡◌, sym, ap, ◌∙◌}
use mathlib.Core.Bool.{true, false}
use mathlib.Core.List.{List, ◌++◌}
use Prim.Native.Nat.{ℕ, ◌*◌, ◌≤◌}
use native.Mathlib.Omega.{arith}
use lib.Dec.{ltb}
use Rattle.std.specs.Prelude.{Result, Ok}
use lib.IntN.{ℤ}
use lib.ListN.{length, take, drop, length-append}
use lib.Seq.{take_at}
use borrow.Author.Tests.{ltb-false, le-ltb, le-leb}
use Rattle.base.specs.Bytes.{AreBytes}
use Rattle.base.proofs.Tests.{pick_first, pick_second, zero_one}
use Rattle.base.specs.Buffers.{overlay}
use Rattle.token.specs.Layout.{record_width}
use Rattle.token.specs.Reason.{reason_ok}
use Rattle.token_file.specs.Rules.{rows_of, natural_rows, rows_numbers, rows_ok, largest_column, some_above, RowsRules}
use Rattle.token_file.specs.Format.{version1, file_of, file_width, file_count, file_rows, framed}
use Rattle.token_file.specs.Calls.{records_ok, write_answer, read_answer, WritesFile, ReadsFile}
use Rattle.token_file.specs.declared.row.Row.{Row}
use Rattle.token_file.specs.declared.write.WriteRefusal.{WriteRefusal}
use Rattle.token_file.specs.declared.read.ReadRefusal.{ReadRefusal}
use Rattle.token_file.proofs.Pieces.{rows_length, numbers_length, bytes_rows_length}
use Rattle.token_file.proofs.Frames.{framed_plain, file_length}
use Rattle.token_file.proofs.RulesPlain.{rows_test, records_plain, count_small}
use Rattle.token_file.proofs.RoundRows.{rows_fit, kept_back, natural_back}
use Rattle.token_file.proofs.RoundFiles.{count_back, file_framed1, reason_below, file_rows1, file_of_rows, columns_fit}
use Rattle.token_file.proofs.Numbers.{bytes_drop}

-- ---- what an accepted call says

pub record Accepted (records : List ℤ) (count room n : ℕ) : Type 0 where
  pub rules : records_ok records count ≡ true
  pub columns : some_above largest_column (rows_of count records) ≡ false
  pub width : n ≡ file_width version1 count
  pub inside : n ≤ room

pub write_accepted : (records : List ℤ) (count room n : ℕ) → Ok n ≡ write_answer records count room → Accepted records count room n
unfolding write_answer
write_accepted records count room n e =
    let a = pick_first (records_ok records count) (λ p. zero_one (cc)) (sym e) in
    let b = pick_second (some_above largest_column (rows_of count records)) (λ p. zero_one (cc)) a.1 in
    let d = pick_second (ltb room (file_width version1 count)) (λ p. zero_one (cc)) b.1 in
    let w : n ≡ file_width version1 count = cc in
    record { rules = a.0; columns = b.0; width = w; inside = omega (arith, ltb-false room (file_width version1 count) d.0) }

pub record Taken (file : List ℕ) (room n : ℕ) : Type 0 where
  pub frame : framed version1 file ≡ true
  pub rules : rows_ok reason_ok 0 (file_rows version1 file) ≡ true
  pub count : n ≡ file_count file
  pub inside : n * record_width ≤ room

pub read_accepted : (file : List ℕ) (room n : ℕ) → Ok n ≡ read_answer file room → Taken file room n
unfolding read_answer
read_accepted file room n e =
    let a = pick_first (framed version1 file) (λ p. zero_one (cc)) (sym e) in
    let b = pick_first (rows_ok reason_ok 0 (file_rows version1 file)) (λ p. zero_one (cc)) a.1 in
    let d = pick_second (ltb room (file_count file * record_width)) (λ p. zero_one (cc)) b.1 in
    let w : n ≡ file_count file = cc in
    record { frame = a.0; rules = b.0; count = w; inside = omega (arith, ltb-false room (file_count file * record_width) d.0) }

-- ---- reading what was written

module _ (records : List ℤ) (count : ℕ) where
  kept_rules : records_ok records count ≡ true → RowsRules reason_ok 0 (rows_of count records)
  kept_rules k = (records_plain records count k).rows

  pub read_back : records_ok records count ≡ true → some_above largest_column (rows_of count records) ≡ false → (room : ℕ) → count * record_width ≤ room
      → read_answer (file_of version1 (rows_of count records)) room ≡ Ok count
  unfolding read_answer
  read_back k s room h =
      let rs = rows_of count records in
      let w = kept_rules k in
      let m : length rs ≡ count = rows_length count records in
      let c : file_count (file_of version1 rs) ≡ count = count_back version1 rs (omega (arith, count_small w)) ∙ m in
      rw (file_framed1 w, file_rows1 reason_below w s, rows_test reason_ok w, c, le-ltb room (count * record_width) h)

-- the six kept numbers come back, with 0 for the others, and the rest of the buffer is untouched
pub reading_written : (records : List ℤ) (count : ℕ) (out out' : List ℕ) (r : Result ℕ WriteRefusal) (n : ℕ) → WritesFile records count out r out' → r ≡ Ok n
    → (tokens tokens' : List ℤ) (q : Result ℕ ReadRefusal) → ReadsFile (take n out') tokens q tokens' → count * record_width ≤ length tokens
    → (q ≡ Ok count) × (tokens' ≡ overlay (rows_numbers (rows_of count records)) tokens)
reading_written records count out out' r n w e tokens tokens' q v h =
    let a = write_accepted records count (length out) n (sym e ∙ w.answer) in
    let rs = rows_of count records in
    let o : out' ≡ overlay (file_of version1 rs) out = rw e at w.buffer in
    let l : length (file_of version1 rs) ≡ n = file_length version1 rs ∙ ap (file_width version1) (rows_length count records) ∙ sym a.width in
    let f : take n out' ≡ file_of version1 rs = rw o (take_at (file_of version1 rs) (drop (length (file_of version1 rs)) out) n l) in
    let g : q ≡ Ok count = v.answer ∙ rw f (read_back records count a.rules a.columns (length tokens) h) in
    let b : tokens' ≡ overlay (rows_numbers (file_rows version1 (take n out'))) tokens = rw g at v.buffer in
    (g, b ∙ rw (f, file_rows1 reason_below (kept_rules records count a.rules) a.columns))

-- ---- writing what was read

module _ (file : List ℕ) (b : AreBytes file) (f : framed version1 file ≡ true) (k : rows_ok reason_ok 0 (file_rows version1 file) ≡ true) where
  abbrev rs : List Row
  rs = file_rows version1 file

  rs_length : length rs ≡ file_count file
  unfolding file_rows
  rs_length = bytes_rows_length version1 (file_count file) (drop 9 file)

  rs_short : some_above largest_column rs ≡ false
  unfolding file_rows
  rs_short = columns_fit rs (rows_fit version1 (file_count file) (drop 9 file) (bytes_drop 9 file b))

  rs_file : file_of version1 rs ≡ file
  rs_file = file_of_rows version1 file b (framed_plain version1 file f)

  module _ (rest : List ℤ) where
    -- the records that were read, with anything after them
    rows_again : rows_of (file_count file) (rows_numbers rs ++ rest) ≡ rs
    rows_again = rw rs_length at (kept_back rs rest)

    records_again : records_ok (rows_numbers rs ++ rest) (file_count file) ≡ true
    unfolding records_ok
    records_again =
        let n : natural_rows (file_count file) (rows_numbers rs ++ rest) ≡ true = rw rs_length at (natural_back rs rest) in
        let l : file_count file * record_width ≤ length (rows_numbers rs ++ rest) =
        omega (arith, length-append (rows_numbers rs) rest, numbers_length rs, rs_length) in
        rw (le-leb (file_count file * record_width) (length (rows_numbers rs ++ rest)) l, n, rows_again, k)

    pub write_back : (room : ℕ) → length file ≤ room → write_answer (rows_numbers rs ++ rest) (file_count file) room ≡ Ok (length file)
    unfolding write_answer
    write_back room h =
        let w = (framed_plain version1 file f).width in
        rw (records_again, rows_again, rs_short, ← w, le-ltb room (length file) h)

-- what was read, written again, gives the same bytes, and the rest of the buffer is untouched
pub writing_read : (file : List ℕ) → AreBytes file → (tokens tokens' : List ℤ) (r : Result ℕ ReadRefusal) (n : ℕ) → ReadsFile file tokens r tokens' → r ≡ Ok n
    → (out out' : List ℕ) (q : Result ℕ WriteRefusal) → WritesFile tokens' n out q out' → length file ≤ length out
    → (q ≡ Ok (length file)) × (out' ≡ overlay file out)
writing_read file b tokens tokens' r n w e out out' q v h =
    let a = read_accepted file (length tokens) n (sym e ∙ w.answer) in
    let rs = file_rows version1 file in
    let t : tokens' ≡ rows_numbers rs ++ drop (length (rows_numbers rs)) tokens = rw e at w.buffer in
    let rest = drop (length (rows_numbers rs)) tokens in
    let g : q ≡ Ok (length file) = v.answer ∙ rw (t, a.count) (write_back file b a.frame a.rules rest (length out) h) in
    let o : out' ≡ overlay (file_of version1 (rows_of n tokens')) out = rw g at v.buffer in
    let m : file_of version1 (rows_of n tokens') ≡ file = rw (t, a.count, rows_again file b a.frame a.rules rest) (rs_file file b a.frame a.rules) in
    (g, o ∙ rw m)
