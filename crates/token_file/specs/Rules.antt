-- The six kept numbers of a token record, and the record rules: document 01, "A token file is ours".
use Rattle.std.specs.Prelude.{◌≡◌, Bool, true, false, not, ◌&&◌, List, [], ◌∷◌, ◌++◌, ℕ, zero, suc, ◌+◌, ◌≤◌, ◌<◌, leb, ltb, eqb, ℤ, pos, negsuc, get_or, drop}
use Rattle.base.specs.Choice.{pick}
use Rattle.base.specs.Bytes.{within}
use Rattle.limits.specs.Limits.{max_message_size}
use Rattle.token.specs.Kind.{eof_number, last_number}
use Rattle.token.specs.Layout.{record_width, record_numbers}
use Rattle.token.specs.declared.layout.Record.{Record}
use Rattle.token_file.specs.declared.row.Row.{Row}

-- Types that other files explain: `Record` in token/specs/Layout.antt.

-- ---- rows of a list of records

-- a field that is not below 0
abbrev pub natural : ℤ → Bool
natural (pos n) = true
natural (negsuc n) = false

-- its value
abbrev pub natural_of : ℤ → ℕ
natural_of (pos n) = n
natural_of (negsuc n) = 0

-- the field at place k of a record
abbrev pub field_at : List ℤ → ℕ → ℤ
field_at l k = get_or l k (pos 0)

-- the kept numbers of the record at the front: "kind, reason, detail, start, end, line, column"; a `Row` of the code has all of these but the detail
unfoldable pub row_at : List ℤ → Row
row_at l =
    record {
      kind = natural_of (field_at l 0);
      reason = natural_of (field_at l 1);
      start = natural_of (field_at l 3);
      end = natural_of (field_at l 4);
      line = natural_of (field_at l 5);
      column = natural_of (field_at l 6);
    }

-- none of the kept numbers of the record at the front is below 0
unfoldable pub natural_row : List ℤ → Bool
natural_row l =
    natural (field_at l 0) && (natural (field_at l 1) &&
    (natural (field_at l 3) && (natural (field_at l 4) && (natural (field_at l 5) && natural (field_at l 6)))))

-- the rows of the first n records
unfoldable pub rows_of : ℕ → List ℤ → List Row
rows_of zero l = []
rows_of (suc n) l = row_at l ∷ rows_of n (drop record_width l)

-- none of the kept numbers of the first n records is below 0
unfoldable pub natural_rows : ℕ → List ℤ → Bool
natural_rows zero l = true
natural_rows (suc n) l = natural_row l && natural_rows n (drop record_width l)

-- "Reading fills the other six numbers with 0"
abbrev pub filled : Row → Record
filled r =
    record {
      kind = r.kind;
      reason = r.reason;
      detail = 0;
      start = r.start;
      end = r.end;
      line = r.line;
      column = r.column;
      value = 0;
      size = 0;
      precision = 0;
      digits = 0;
      nanos = pos 0;
    }

-- that record as it is stored
abbrev pub row_numbers : Row → List ℤ
row_numbers r = record_numbers (filled r)

-- the records of all rows, one after the other
abbrev pub rows_numbers : List Row → List ℤ
rows_numbers [] = []
rows_numbers (r ∷ rs) = row_numbers r ++ rows_numbers rs

-- ---- the rules as a test

-- "line and column 1 to 67,108,865": both count from 1, so the last is one more than the longest text has bytes
abbrev pub last_place : ℕ
last_place = max_message_size + 1

-- "start < end except kind 0, where equal"
abbrev pub span_ok : ℕ → ℕ → ℕ → Bool
span_ok kind start end = pick (eqb kind eof_number) (eqb start end) (ltb start end)

-- one row after the end of the row before it, `prev`; `ok` is the test of its kind and reason, today `reason_ok` of crate token
unfoldable pub row_ok : (ok : ℕ → ℕ → Bool) → ℕ → Row → Bool
row_ok ok prev r =
    leb r.kind last_number && (ok r.kind r.reason && (span_ok r.kind r.start r.end && (leb prev r.start
    && (leb r.end max_message_size && (within 1 last_place r.line && within 1 last_place r.column)))))

-- all rows after the end `prev`: "count at least 1", "kind 0 last and only there"
unfoldable pub rows_ok : (ok : ℕ → ℕ → Bool) → ℕ → List Row → Bool
rows_ok ok prev [] = false
rows_ok ok prev (r ∷ []) = eqb r.kind eof_number && row_ok ok prev r
rows_ok ok prev (r ∷ q ∷ rs) = not (eqb r.kind eof_number) && (row_ok ok prev r && rows_ok ok r.end (q ∷ rs))

-- ---- the rules in plain logic

-- of one row, as `row_ok`; what `reason_ok` means in plain logic says `ReasonRule` of crate token
pub record RowRules (ok : ℕ → ℕ → Bool) (prev : ℕ) (r : Row) : Type 0 where
  pub kind : r.kind ≤ last_number
  pub reason : ok r.kind r.reason ≡ true
  pub span_eof : r.kind ≡ eof_number → r.start ≡ r.end
  pub span_other : (r.kind ≡ eof_number → ⊥) → r.start < r.end
  pub order : prev ≤ r.start
  pub end : r.end ≤ max_message_size
  pub line : (1 ≤ r.line) × (r.line ≤ last_place)
  pub column : (1 ≤ r.column) × (r.column ≤ last_place)

-- of all rows, as `rows_ok`: the last and no other is of kind 0
pub data RowsRules (ok : ℕ → ℕ → Bool) : ℕ → List Row → Type 0 where
  last : {prev : ℕ} {r : Row} → r.kind ≡ eof_number → RowRules ok prev r → RowsRules ok prev (r ∷ [])
  more : {prev : ℕ} {r q : Row} {rs : List Row} → (r.kind ≡ eof_number → ⊥) → RowRules ok prev r → RowsRules ok r.end (q ∷ rs)
      → RowsRules ok prev (r ∷ q ∷ rs)

-- ---- "9: a column above 65,535"

-- the largest column that 16 bits hold
abbrev pub largest_column : ℕ
largest_column = 65535

-- some row has a column above the bound
abbrev pub some_above : ℕ → List Row → Bool
some_above bound [] = false
some_above bound (r ∷ rs) = pick (ltb bound r.column) true (some_above bound rs)
