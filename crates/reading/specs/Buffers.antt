-- What a reading lays into the three buffers: document 01, "Places and records".
use Rattle.std.specs.Prelude.{◌≡◌, List, [], ◌∷◌, ◌++◌, map, ℕ, ◌+◌, ℤ, length, drop}
use Rattle.base.specs.Choice.{pick}
use Rattle.base.specs.Buffers.{after}
use Rattle.token.specs.Kind.{kind_number, is_string}
use Rattle.token.specs.Layout.{record_numbers, report_numbers}
use Rattle.token.specs.Reason.{number_of}
use Rattle.token.specs.declared.layout.Record.{Record}
use Rattle.token.specs.declared.layout.Report.{Report}
use Rattle.lexeme.specs.Reports.{report_of}
use Rattle.lexer.specs.Reading.{string_in, notes_in}
use Rattle.lexer.specs.Token.{next_token, string_size}
use Rattle.lexer.specs.declared.next.Token.{Token}
use Rattle.lexer.specs.declared.reading.Reading.{Reading}
use Rattle.reading.specs.Tokens.{tokens}
use Rattle.reading.specs.declared.counts.Counts.{Counts}

-- Types of the code (src/counts.rt). `Counts`: how many `tokens`, `strings`, which are string bytes, and `reports`.
-- Types that other files explain: `Record`, `Report` in token/specs/Layout.antt; `Token` in lexer/specs/Token.antt; `Reading` in
-- lexer/specs/Reading.antt.

-- the record of a token whose string, if it has one, starts at p of the string buffer: "A String's value lies in the string buffer, other values
-- and precisions in the text"
abbrev pub record_of : ℕ → Token → Record
record_of p t =
    record {
      kind = kind_number t.kind;
      reason = number_of t.reason;
      detail = t.detail;
      start = t.start.offset;
      end = t.end.offset;
      line = t.start.line;
      column = t.start.column;
      value = pick (is_string t.kind) p t.value;
      size = t.size;
      precision = t.precision;
      digits = t.digits;
      nanos = t.nanos;
    }

-- the records of tokens whose strings start at p: "Each call lays its strings from the buffer's start, in token order, without gaps"
unfoldable pub records_of : ℕ → List Token → List Record
records_of p [] = []
records_of p (t ∷ ts) = record_of p t ∷ records_of (p + string_size t.kind t.size) ts

-- the strings of tokens of the text, one after the other
unfoldable pub strings_of : Reading → List ℕ → List Token → List ℕ
strings_of m text [] = []
strings_of m text (t ∷ ts) = string_in m (drop t.start.offset text) ++ strings_of m text ts

-- the reports of tokens of the text, in order
unfoldable pub reports_of : Reading → ℕ → List ℕ → List Token → List Report
reports_of m limit text [] = []
reports_of m limit text (t ∷ ts) =
    map (report_of text t.start.offset) (notes_in m limit (drop t.start.offset text)) ++ reports_of m limit text ts

-- the numbers of records, and of reports, as they are stored
unfoldable pub record_rows : List Record → List ℤ
record_rows [] = []
record_rows (r ∷ rs) = record_numbers r ++ record_rows rs

unfoldable pub report_rows : List Report → List ℤ
report_rows [] = []
report_rows (r ∷ rs) = report_numbers r ++ report_rows rs

-- what is laid: the records of tokens, their strings and their reports
pub record Laid : Type 0 where
  pub records : List Record
  pub strings : List ℕ
  pub reports : List Report

-- "the counts of tokens, string bytes and reports" of what is laid
abbrev pub counts_of : Laid → Counts
counts_of l = record { tokens = length l.records; strings = length l.strings; reports = length l.reports }

-- what tokens of the text lay, their strings from p on
abbrev pub laid_from : Reading → ℕ → List ℕ → ℕ → List Token → Laid
laid_from m limit text p ts = record { records = records_of p ts; strings = strings_of m text ts; reports = reports_of m limit text ts }

-- what the whole reading of a text lays
abbrev pub whole_laid : Reading → ℕ → List ℕ → Laid
whole_laid m limit text = laid_from m limit text 0 (tokens m limit text)

-- what the reading of one token lays, of the one after an offset
abbrev pub one_laid : Reading → ℕ → List ℕ → ℕ → Laid
one_laid m limit text at = laid_from m limit text 0 (next_token m limit text at ∷ [])

-- the buffers after a call that lays this where its answer has the number 0: "A refused call writes nothing to any buffer", "An accepted call
-- leaves the rest of a buffer, past its result, untouched"
pub record Lays (number : ℕ) (l : Laid) (T : List ℤ) (S : List ℕ) (R T' : List ℤ) (S' : List ℕ) (R' : List ℤ) : Type 0 where
  pub records : T' ≡ after number (record_rows l.records) T
  pub strings : S' ≡ after number l.strings S
  pub reports : R' ≡ after number (report_rows l.reports) R
