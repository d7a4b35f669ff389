-- The bytes of a token file: document 01, "mark `OFT`, 16-bit version 1, 32-bit count, then per token kind and reason (8 bits each), start, end,
-- line (32) and column (16), little-endian".
use Rattle.std.specs.Prelude.{Bool, ◌&&◌, List, [], ◌∷◌, ◌++◌, ℕ, zero, suc, ◌+◌, ◌*◌, ◌/◌, ◌%◌, leb, eqb, length, take, drop}
use Rattle.std.proofs.Common.{lit≤}
use Rattle.base.specs.Characters.{ascii}
use Rattle.base.specs.Bytes.{same_bytes}
use Rattle.token_file.specs.declared.row.Row.{Row}
use Rattle.token_file.specs.declared.layout.Layout.{Layout}

-- Types that other files explain: `Row` in Rules.antt.

-- ---- numbers as bytes

-- a number as w bytes, the lowest first
unfoldable pub little : ℕ → ℕ → List ℕ
little zero n = []
little (suc w) n = n % 256 ∷ little w (n / 256)

-- the number that bytes write, the lowest first
unfoldable pub unlittle : List ℕ → ℕ
unlittle [] = 0
unlittle (b ∷ bs) = b + 256 * unlittle bs

-- ---- the layout of a version: one row of this table for each

-- version 1, in bytes; a `Layout` of the code has the version and how many bytes each number of a `Row` has: kind, reason, start, end, line, column;
-- `narrow` says that each of the six has at most seven
unfoldable pub version1 : Layout
version1 =
    record {
      version = 1;
      kind = 1;
      reason = 1;
      start = 4;
      end = 4;
      line = 4;
      column = 2;
      narrow = (lit≤ tt, lit≤ tt, lit≤ tt, lit≤ tt, lit≤ tt, lit≤ tt);
    }

-- how many bytes a token has
unfoldable pub row_width : Layout → ℕ
row_width y = y.kind + y.reason + y.start + y.end + y.line + y.column

-- the mark `OFT`
abbrev pub file_mark : List ℕ
file_mark = ascii "OFT"

-- mark, version and count
abbrev pub header_width : ℕ
header_width = 9

-- ---- from rows to bytes

-- "per token kind and reason (8 bits each), start, end, line (32) and column (16), little-endian"
unfoldable pub row_bytes : Layout → Row → List ℕ
row_bytes y r =
    little y.kind r.kind ++ little y.reason r.reason ++ little y.start r.start ++ little y.end r.end
    ++ little y.line r.line ++ little y.column r.column

-- the bytes of all rows, one after the other
unfoldable pub rows_bytes : Layout → List Row → List ℕ
rows_bytes y [] = []
rows_bytes y (r ∷ rs) = row_bytes y r ++ rows_bytes y rs

-- "mark `OFT`, 16-bit version 1, 32-bit count"
unfoldable pub header : Layout → ℕ → List ℕ
header y count = file_mark ++ little 2 y.version ++ little 4 count

-- the file of a list of rows
unfoldable pub file_of : Layout → List Row → List ℕ
file_of y rs = header y (length rs) ++ rows_bytes y rs

-- how many bytes the file of so many rows has
unfoldable pub file_width : Layout → ℕ → ℕ
file_width y count = header_width + row_width y * count

-- ---- from bytes to rows

-- the number of w bytes at place i
abbrev pub number_at : List ℕ → ℕ → ℕ → ℕ
number_at l i w = unlittle (take w (drop i l))

-- the row at the front
unfoldable pub bytes_row : Layout → List ℕ → Row
bytes_row y l =
    record {
      kind = number_at l 0 y.kind;
      reason = number_at l y.kind y.reason;
      start = number_at l (y.kind + y.reason) y.start;
      end = number_at l (y.kind + y.reason + y.start) y.end;
      line = number_at l (y.kind + y.reason + y.start + y.end) y.line;
      column = number_at l (y.kind + y.reason + y.start + y.end + y.line) y.column;
    }

-- the rows of so many tokens
unfoldable pub bytes_rows : Layout → ℕ → List ℕ → List Row
bytes_rows y zero l = []
bytes_rows y (suc n) l = bytes_row y l ∷ bytes_rows y n (drop (row_width y) l)

-- the count that a file's header gives
unfoldable pub file_count : List ℕ → ℕ
file_count file = number_at file 5 4

-- the rows of a file
unfoldable pub file_rows : Layout → List ℕ → List Row
file_rows y file = bytes_rows y (file_count file) (drop header_width file)

-- a file's frame is right: refusal 7 is "under 9 bytes, wrong mark or version, or length other than 9 + 16 × count"
unfoldable pub framed : Layout → List ℕ → Bool
framed y file =
    leb header_width (length file)
    && (same_bytes (take 3 file) file_mark && (eqb (number_at file 3 2) y.version && eqb (length file) (file_width y (file_count file))))
