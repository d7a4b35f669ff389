-- One token after the other by `read_token`, each from the place at the end of the one before, against the whole reading.
use Rattle.std.specs.Prelude.{◌≡◌, List, [], ◌∷◌, ◌++◌, ℕ, ◌+◌, ◌*◌, ◌≤◌, ◌<◌, eqb, ℤ, length, take, Ok}
use Rattle.base.specs.Choice.{pick}
use Rattle.limits.specs.Limits.{max_message_size}
use Rattle.utf8.specs.Check.{check_of}
use Rattle.token.specs.Kind.{eof_number, string_number}
use Rattle.token.specs.Layout.{record_width, report_width}
use Rattle.token.specs.Place.{first_place}
use Rattle.token.specs.declared.layout.Record.{Record}
use Rattle.token.specs.declared.layout.Report.{Report}
use Rattle.token.specs.declared.place.Place.{Place}
use Rattle.lexer.specs.declared.reading.Reading.{Reading}
use Rattle.reading.specs.Buffers.{record_rows, report_rows, Laid, whole_laid}
use Rattle.reading.specs.Calls.{ReadsToken}

-- Types that other files explain: `Record`, `Report` in token/specs/Layout.antt; `Place` in token/specs/Place.antt; `Reading` in
-- lexer/specs/Reading.antt; `OneToken` in Answers.antt.

-- what a call lays of one token
abbrev pub of_one : Record → List ℕ → List Report → Laid
of_one r bytes reports = record { records = r ∷ []; strings = bytes; reports = reports }

-- an accepted call from the place p: what it laid, and the place q "at the token's end" that it gave
pub record Call (m : Reading) (limit : ℕ) (text : List ℕ) (p : Place) (l : Laid) (q : Place) : Type 0 where
  -- the buffers, lent and given back, and the counts
  pub T : List ℤ
  pub S : List ℕ
  pub R : List ℤ
  pub T' : List ℤ
  pub S' : List ℕ
  pub R' : List ℤ
  pub s : ℕ
  pub k : ℕ
  pub reads : ReadsToken m limit text p T S R (Ok (record { strings = s; reports = k; end = q })) T' S' R'
  pub stored : take record_width T' ≡ record_rows l.records
  pub written : take s S' ≡ l.strings
  pub reported : take (k * report_width) R' ≡ report_rows l.reports

-- a record with another value place
abbrev pub with_value : ℕ → Record → Record
with_value v r =
    record {
      kind = r.kind;
      reason = r.reason;
      detail = r.detail;
      start = r.start;
      end = r.end;
      line = r.line;
      column = r.column;
      value = v;
      size = r.size;
      precision = r.precision;
      digits = r.digits;
      nanos = r.nanos;
    }

-- a record whose string, if it has one, has n bytes of other strings before it: "Each call lays its strings from the buffer's start"
abbrev pub moved_by : ℕ → Record → Record
moved_by n r = with_value (pick (eqb r.kind string_number) (n + r.value) r.value) r

-- what is laid, and after it what is laid next
abbrev pub joined : Laid → Laid → Laid
joined a b = record { records = a.records ++ b.records; strings = a.strings ++ b.strings; reports = a.reports ++ b.reports }

-- calls from a place on until one gives the Eof, with n string bytes before them: what they lay, laid together
pub data Calls (m : Reading) (limit : ℕ) (text : List ℕ) : ℕ → Place → Laid → Type 0 where
  last : {n : ℕ} {p q : Place} {r : Record} {bytes : List ℕ} {reports : List Report} → Call m limit text p (of_one r bytes reports) q
      → r.kind ≡ eof_number → Calls m limit text n p (of_one (moved_by n r) bytes reports)
  more : {n : ℕ} {p q : Place} {r : Record} {bytes : List ℕ} {reports : List Report} {l : Laid} → Call m limit text p (of_one r bytes reports) q
      → eof_number < r.kind → Calls m limit text (n + length bytes) q l → Calls m limit text n p (joined (of_one (moved_by n r) bytes reports) l)

-- calls from the first place on lay what the whole reading lays
abbrev pub ChainGivesWhole : Reading → ℕ → List ℕ → Type 0
ChainGivesWhole m limit text = (l : Laid) → Calls m limit text 0 first_place l → l ≡ whole_laid m limit text

-- and no call of them is refused, where the text is one that is read and each call is lent room for any token of it
abbrev pub ChainRuns : Reading → ℕ → List ℕ → Type 0
ChainRuns m limit text =
    length text ≤ max_message_size → check_of text ≡ Ok tt → (T : List ℤ) (S : List ℕ) (R : List ℤ) → record_width ≤ length T
    → length text ≤ length S → length text * report_width ≤ length R → Calls m limit text 0 first_place (whole_laid m limit text)
