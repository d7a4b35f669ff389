-- Helper definitions, for proofs and inner contracts alone: bounds of places, numbers and reasons, and which kinds stay on their line.
use Rattle.std.specs.Prelude.{◌≡◌, Bool, not, ◌||◌, List, ℕ, ◌+◌, ◌≤◌, ◌<◌, eqb, length}
use Rattle.base.specs.Bytes.{byte}
use Rattle.limits.specs.Limits.{max_message_size}
use Rattle.token.specs.Place.{newline, place_at}
use Rattle.token.specs.Kind.{is_string, illegal_number, newline_number, comment_number, bytes_number, timestamp_number, duration_number, kind_number}
use Rattle.token.specs.Reason.{bad_timestamp}
use Rattle.token.specs.declared.place.Place.{Place}
use Rattle.token.specs.declared.layout.Record.{Record}
use Rattle.token.specs.declared.layout.Report.{Report}
use Rattle.token.specs.declared.kind.TokenKind.{TokenKind}

-- Types that other files explain: `Place` in Place.antt; `Record`, `Report` in Layout.antt; `TokenKind` in Kind.antt.

-- ---- places

-- none of the first n bytes is a newline
abbrev pub Flat : List ℕ → ℕ → Type 0
Flat s n = (j : ℕ) → j < n → byte s j ≡ newline → ⊥

-- what a place of a text has: neither its line nor its column is past the bytes before it
pub record Bounded (p : Place) : Type 0 where
  pub line : p.line ≤ p.offset + 1
  pub column : p.column ≤ p.offset + 1

-- a place of a text that has a byte left
pub record Steppable (p : Place) : Type 0 where
  pub offset : p.offset < max_message_size
  pub bounded : Bounded p

-- a text that is read, one of its places, and an offset not before it
pub record Walkable (s : List ℕ) (p : Place) (to : ℕ) : Type 0 where
  pub true_place : p ≡ place_at s p.offset
  pub forward : p.offset ≤ to
  pub inside : to ≤ length s
  pub short : length s ≤ max_message_size

-- ---- numbers that are stored

-- a number that a signed 64-bit one can hold
abbrev pub Fits63 : ℕ → Type 0
Fits63 n = n < 0x8000000000000000

-- each number of the record fits; the nanoseconds are signed already
pub record RecordFits (r : Record) : Type 0 where
  pub kind : Fits63 r.kind
  pub reason : Fits63 r.reason
  pub detail : Fits63 r.detail
  pub start : Fits63 r.start
  pub end : Fits63 r.end
  pub line : Fits63 r.line
  pub column : Fits63 r.column
  pub value : Fits63 r.value
  pub size : Fits63 r.size
  pub precision : Fits63 r.precision
  pub digits : Fits63 r.digits

-- each number of the report fits
pub record ReportFits (r : Report) : Type 0 where
  pub reason : Fits63 r.reason
  pub detail : Fits63 r.detail
  pub offset : Fits63 r.offset
  pub line : Fits63 r.line
  pub column : Fits63 r.column

-- ---- reasons

-- the last of all: no token and no report has a greater one
abbrev pub last_reason : ℕ
last_reason = bad_timestamp

-- ---- kinds

-- whether a kind is the one of the name, as `is_eof` and `is_string` say
abbrev pub is_illegal : TokenKind → Bool
is_illegal k = eqb (kind_number k) illegal_number

abbrev pub is_newline : TokenKind → Bool
is_newline k = eqb (kind_number k) newline_number

abbrev pub is_comment : TokenKind → Bool
is_comment k = eqb (kind_number k) comment_number

abbrev pub is_bytes : TokenKind → Bool
is_bytes k = eqb (kind_number k) bytes_number

abbrev pub is_timestamp : TokenKind → Bool
is_timestamp k = eqb (kind_number k) timestamp_number

abbrev pub is_duration : TokenKind → Bool
is_duration k = eqb (kind_number k) duration_number

-- the kinds whose tokens have no newline in any text: all but Illegal, Newline, Comment, String and Bytes
unfoldable pub on_one_line : TokenKind → Bool
on_one_line k = not ((((is_illegal k || is_newline k) || is_comment k) || is_string k) || is_bytes k)
