-- For the loops that judge rows, `rules_hold` of records and of a file, and for `checked` and `some_long_column`: whether the rows that are left keep the
-- rules decides. A turn takes the first of them off. Assumes nothing.
use mathlib.Core.Path.{◌≡◌, refl, sym, ◌∙◌}
use mathlib.Core.Bool.{Bool, true, false, not, ◌&&◌, ◌||◌}
use mathlib.Core.List.{List, [], ◌∷◌, map}
use Prim.Native.Nat.{ℕ, suc, ◌+◌, ◌*◌, ◌/◌, ◌≤◌, ◌<◌}
use native.Mathlib.Omega.{arith}
use lib.Dec.{ltb, eqb, eqb-suc-zero}
use lib.IntN.{ℤ, pos, negsuc}
use lib.ListN.{length, get_or, take, drop, length-drop}
use lib.Signed.{lt_z}
use borrow.Author.Tests.{le-ltb, le-leb, lt-leb, eq-eqb, ne_eqb}
use Rattle.std.specs.List.{list_any}
use Rattle.std.specs.Simd.{first_chunks}
use Rattle.std.proofs.lemmas.List.{at_drop_more, at_drop_all}
use Rattle.base.specs.Choice.{pick}
use Rattle.base.proofs.Tests.{and-false, and-true, and_assoc}
use Rattle.token.specs.Kind.{eof_number}
use Rattle.token.specs.Layout.{record_width}
use Rattle.token.specs.Reason.{reason_ok}
use Rattle.token_file.specs.Rules.{natural_of, field_at, row_at, natural_row, row_ok, rows_ok, some_above}
use Rattle.token_file.specs.Format.{header_width, bytes_rows}
use Rattle.token_file.specs.Fits.{last_ok, all_natural, CheckedRecords}
use Rattle.token_file.specs.Calls.{records_ok}
use Rattle.token_file.specs.declared.row.Row.{Row}
use Rattle.token_file.specs.declared.layout.Layout.{Layout}
use Rattle.token_file.proofs.Pieces.{Next, next_record, bytes_rows_length, rows_of_chunks, natural_chunks, chunks_first}

-- ---- the rules, judged row by row

-- a row is the last of `count` where none is after it
abbrev is_last : List Row → Bool
is_last [] = true
is_last (q ∷ qs) = false

-- the rows that are left keep the rules
abbrev pub left_ok : ℕ → List Row → Bool
left_ok prev [] = true
left_ok prev (r ∷ rs) = (last_ok (is_last rs) r && row_ok reason_ok prev r) && left_ok r.end rs

rows_left : (prev : ℕ) (rs : List Row) → rows_ok reason_ok prev rs ≡ not (eqb (length rs) 0) && left_ok prev rs
unfolding rows_ok
rows_left prev [] = refl
rows_left prev (r ∷ []) = rw (and-true (eqb r.kind eof_number && row_ok reason_ok prev r))
rows_left prev (r ∷ (q ∷ rs)) =
    rw (
      eqb-suc-zero (suc (length rs)),
      rows_left r.end (q ∷ rs),
      eqb-suc-zero (length rs),
      and_assoc (not (eqb r.kind eof_number)) (row_ok reason_ok prev r) (left_ok r.end (q ∷ rs)),
    )

last_is : (qs : List Row) (i n : ℕ) → length qs + (i + 1) ≡ n → eqb (i + 1) n ≡ is_last qs
last_is [] i n e = eq-eqb (i + 1) n (omega arith)
last_is (q ∷ qs) i n e = ne_eqb (i + 1) n (λ f. absurd (omega arith))

-- the judging loop: no row before i has broken a rule
pub record Judging (rs : List Row) (n i prev : ℕ) : Type 0 where
  pub count : length rs ≡ n
  pub rest : left_ok prev (drop i rs) ≡ left_ok 0 rs

module _ {rs : List Row} {n i prev : ℕ} (w : Judging rs n i prev) where
  -- a turn: the next row may stand, or not
  module _ (h : i < n) {r : Row} (e : Next rs i r) {b : Bool} (eb : b ≡ last_ok (eqb (i + 1) n) r && row_ok reason_ok prev r) where
    rest_is : left_ok prev (drop i rs) ≡ b && left_ok r.end (drop (i + 1) rs)
    rest_is = rw (e, eb, last_is (drop (i + 1) rs) i n (omega (arith, length-drop (i + 1) rs, w.count)))

    pub judge_turn : b ≡ true → Judging rs n (i + 1) r.end
    judge_turn t = record { count = w.count; rest = sym (rw t at rest_is) ∙ w.rest }

    pub judge_stop : b ≡ false → false ≡ rows_ok reason_ok 0 rs
    judge_stop t = rw (rows_left 0 rs, ← w.rest, rest_is, t) (sym (and-false (not (eqb (length rs) 0))))

  pub judge_end : n ≤ i → not (eqb n 0) ≡ rows_ok reason_ok 0 rs
  judge_end h = rw (rows_left 0 rs, ← w.rest, at_drop_all (left_ok prev) rs i (omega (arith, w.count)), w.count) (sym (and-true (not (eqb n 0))))

pub judge_start : (y : Layout) (file : List ℕ) (n : ℕ) → Judging (bytes_rows y n (drop header_width file)) n 0 0
judge_start y file n = record { count = bytes_rows_length y n (drop header_width file); rest = refl }

-- ---- the signs of records

-- the judging loop over records: neither the rules nor the signs have failed
pub record JudgingRecords (l : List (List ℤ)) (i prev : ℕ) : Type 0 where
  pub rules : Judging (map row_at l) (length l) i prev
  pub signs : all_natural (drop i l) ≡ all_natural l

module _ {l : List (List ℤ)} {i prev : ℕ} (w : JudgingRecords l i prev) where
  -- a turn: the next record has no number below 0, and its row may stand, or not
  module _ (h : i < length l) {r : Row} (e : (natural_row (get_or l i []) ≡ true) × (r ≡ row_at (get_or l i []))) {b : Bool}
      (eb : b ≡ last_ok (eqb (i + 1) (length l)) r && row_ok reason_ok prev r) where
    pub records_turn : b ≡ true → JudgingRecords l (i + 1) r.end
    records_turn t =
        record {
          rules = judge_turn w.rules h (next_record l i h e.1) eb t;
          signs = sym (rw e.0 at (at_drop_more all_natural l i [] h)) ∙ w.signs;
        }

    pub records_stop : b ≡ false → false ≡ all_natural l && rows_ok reason_ok 0 (map row_at l)
    records_stop t = rw (← judge_stop w.rules h (next_record l i h e.1) eb t) (sym (and-false (all_natural l)))

  pub records_end : length l ≤ i → not (eqb (length l) 0) ≡ all_natural l && rows_ok reason_ok 0 (map row_at l)
  records_end h = rw (← w.signs, at_drop_all all_natural l i h) (judge_end w.rules h)

-- ---- the records of a slice

module _ (l : List ℤ) {count : ℕ} {all : List (List ℤ)} (a : all ≡ first_chunks record_width (length l / record_width) l)
    (n : length all ≡ length l / record_width) where
  pub checked_short : length all < count → records_ok l count ≡ false
  unfolding records_ok
  checked_short h = rw (lt-leb (count * record_width) (length l) (omega arith))

  module _ (h : count ≤ length all) {b : Bool} (e : b ≡ all_natural (take count all) && rows_ok reason_ok 0 (map row_at (take count all))) where
    checked_are : take count all ≡ first_chunks record_width count l
    checked_are = rw a (chunks_first count (length l / record_width) l (omega arith))

    checked_judged : records_ok l count ≡ b
    unfolding records_ok
    checked_judged = rw (le-leb (count * record_width) (length l) (omega arith), e, checked_are, natural_chunks count l, rows_of_chunks count l)

    pub checked_not : b ≡ false → records_ok l count ≡ false
    checked_not t = checked_judged ∙ t

    pub checked_all : b ≡ true → CheckedRecords l count (take count all)
    checked_all t = record { rules = checked_judged ∙ t; are = checked_are }

-- ---- a column above a bound

or_pick : (a b : Bool) → a || b ≡ pick a true b
or_pick true b = refl
or_pick false b = refl

-- the code's test of a stored column
pub column_test : (bound : ℕ) (z : ℤ) → lt_z (pos bound) z ≡ ltb bound (natural_of z)
column_test bound (pos n) = refl
column_test bound (negsuc n) = sym (le-ltb bound 0 (omega arith))

pub above_any : (bound : ℕ) (l : List (List ℤ)) → list_any (λ r. lt_z (pos bound) (field_at r 6)) l ≡ some_above bound (map row_at l)
unfolding row_at
above_any bound [] = refl
above_any bound (r ∷ l) = rw (column_test bound (field_at r 6), above_any bound l) (or_pick (ltb bound (natural_of (field_at r 6))) (some_above bound (map row_at l)))
