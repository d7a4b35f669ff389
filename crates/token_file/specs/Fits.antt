-- Helper definitions, for proofs and inner contracts alone: rows whose numbers have room in a layout, and what the code's parts read
-- and test.
use Rattle.std.specs.Prelude.{◌≡◌, Bool, true, not, ◌&&◌, List, [], ◌∷◌, ℕ, ◌+◌, ◌<◌, ◌^◌, eqb, ℤ, drop}
use Rattle.std.specs.Simd.{first_chunks}
use Rattle.base.specs.Choice.{pick}
use Rattle.token.specs.Kind.{eof_number}
use Rattle.token.specs.Layout.{record_width}
use Rattle.token.specs.Helpers.{Fits63}
use Rattle.token_file.specs.Rules.{natural_row}
use Rattle.token_file.specs.Format.{bytes_row, file_count, framed}
use Rattle.token_file.specs.Calls.{records_ok}
use Rattle.token_file.specs.declared.row.Row.{Row}
use Rattle.token_file.specs.declared.layout.Layout.{Layout}
use Rattle.token_file.specs.declared.layout.Offsets.{Offsets}

-- Types that other files explain: `Row` in Rules.antt; `Layout` in Format.antt.

-- each number of the row has room in the bytes that the layout gives it
pub record RowFits (y : Layout) (r : Row) : Type 0 where
  pub kind : r.kind < 256 ^ y.kind
  pub reason : r.reason < 256 ^ y.reason
  pub start : r.start < 256 ^ y.start
  pub end : r.end < 256 ^ y.end
  pub line : r.line < 256 ^ y.line
  pub column : r.column < 256 ^ y.column

-- so does each number of each row
pub data RowsFit (y : Layout) : List Row → Type 0 where
  none : RowsFit y []
  some : {r : Row} {rs : List Row} → RowFits y r → RowsFit y rs → RowsFit y (r ∷ rs)

-- a signed 64-bit number holds each number of the row
pub record RowSmall (r : Row) : Type 0 where
  pub kind : Fits63 r.kind
  pub reason : Fits63 r.reason
  pub start : Fits63 r.start
  pub end : Fits63 r.end
  pub line : Fits63 r.line
  pub column : Fits63 r.column

-- "kind 0 last and only there", for a row that is the last or not
abbrev pub last_ok : Bool → Row → Bool
last_ok is_last r = pick is_last (eqb r.kind eof_number) (not (eqb r.kind eof_number))

-- none of the kept numbers of the records is below 0
abbrev pub all_natural : List (List ℤ) → Bool
all_natural [] = true
all_natural (r ∷ rs) = natural_row r && all_natural rs

-- the first records of a slice, each a list of its own, where the slice has so many and they keep the rules
pub record CheckedRecords (records : List ℤ) (count : ℕ) (checked : List (List ℤ)) : Type 0 where
  pub rules : records_ok records count ≡ true
  pub are : checked ≡ first_chunks record_width count records

-- where the numbers of a row that begins at a place begin
abbrev pub offsets : Layout → ℕ → Offsets
offsets y at =
    record {
      kind = at;
      reason = at + y.kind;
      start = at + y.kind + y.reason;
      end = at + y.kind + y.reason + y.start;
      line = at + y.kind + y.reason + y.start + y.end;
      column = at + y.kind + y.reason + y.start + y.end + y.line;
    }

-- what reading the frame of a file gives, where it is right: the file, its layout and its count
pub record FrameRead (y : Layout) (file file' : List ℕ) (y' : Layout) (count : ℕ) : Type 0 where
  pub right : framed y file ≡ true
  pub same_file : file' ≡ file
  pub same_layout : y' ≡ y
  pub counted : count ≡ file_count file

-- what reading a row from bytes gives
pub record RowRead (y : Layout) (file : List ℕ) (at : ℕ) (r : Row) : Type 0 where
  pub is : r ≡ bytes_row y (drop at file)
  pub small : RowSmall r
