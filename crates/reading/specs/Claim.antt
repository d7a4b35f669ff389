-- Demand 3: one claim about all that an accepted whole reading writes, from document 01's "The words of demand 3", with definitions of its own.
use Rattle.std.specs.Prelude.{◌≡◌, ◌⊎◌, List, [], ◌∷◌, ◌++◌, ℕ, ◌+◌, ◌-◌, ◌≤◌, ◌<◌, ℤ, length, take, drop, get_or}
use Prim.Native.Char.{code}
use Rattle.go_duration.specs.Written.{SumOfParts}
use Rattle.token.specs.Kind.{eof_number, string_number, duration_number}
use Rattle.token.specs.Place.{newlines, since_newline}
use Rattle.token.specs.declared.layout.Record.{Record}
use Rattle.token.specs.declared.layout.Report.{Report}
use Rattle.lexer.specs.Reading.{string_in}
use Rattle.lexer.specs.declared.reading.Reading.{Reading}
use Rattle.reading.specs.Buffers.{record_rows, report_rows, Laid, whole_laid}

-- Types that other files explain: `Record`, `Report` in token/specs/Layout.antt; `Reading` in lexer/specs/Reading.antt.

-- "The bytes of a token or a gap are those of the text from its start to its end"
abbrev pub bytes_of : List ℕ → ℕ → ℕ → List ℕ
bytes_of text start end = take (end - start) (drop start text)

-- the gaps and the tokens after the offset e, in order: "A gap runs from the end of the token before, at first from 0, to the next start"
abbrev pub pieces : List ℕ → ℕ → List Record → List ℕ
pieces text e [] = []
pieces text e (r ∷ rs) = bytes_of text e r.start ++ (bytes_of text r.start r.end ++ pieces text r.end rs)

-- each token starts where the one before ends or later, and ends within the text: no overlap
pub data Tiles (text : List ℕ) : ℕ → List Record → Type 0 where
  none : {e : ℕ} → Tiles text e []
  more : {e : ℕ} {r : Record} {rs : List Record} → e ≤ r.start → r.start ≤ r.end → r.end ≤ length text → Tiles text r.end rs → Tiles text e (r ∷ rs)

-- a space, a tab or a carriage return
abbrev pub Blank : ℕ → Type 0
Blank b = (b ≡ code " ") ⊎ ((b ≡ code "\t") ⊎ (b ≡ code "\r"))

-- gaps hold blanks alone
pub data Gaps (text : List ℕ) : ℕ → List Record → Type 0 where
  none : {e : ℕ} → Gaps text e []
  more : {e : ℕ} {r : Record} {rs : List Record} → ((k : ℕ) → e ≤ k → k < r.start → Blank (get_or text k 0)) → Gaps text r.end rs → Gaps text e (r ∷ rs)

-- exactly one Eof, the last: "Eof is a token too, with start and end both the text's length"; every other token has a byte at least
pub data OneEof (text : List ℕ) : List Record → Type 0 where
  last : {r : Record} → r.kind ≡ eof_number → r.start ≡ length text → r.end ≡ length text → OneEof text (r ∷ [])
  more : {r : Record} {rs : List Record} → eof_number < r.kind → r.start < r.end → OneEof text rs → OneEof text (r ∷ rs)

-- a line and a column are those of an offset: "newlines and bytes before it are those of the text"
pub record TruePlace (text : List ℕ) (offset l c : ℕ) : Type 0 where
  pub inside : offset ≤ length text
  pub line : l ≡ 1 + newlines (take offset text)
  pub column : c ≡ 1 + since_newline 0 (take offset text)

-- something holds of each element of a list
pub data Each {A : Type 0} (P : A → Type 0) : List A → Type 0 where
  none : Each P []
  more : {x : A} {xs : List A} → P x → Each P xs → Each P (x ∷ xs)

-- "A token stands at its start"
abbrev pub TokenPlace : List ℕ → Record → Type 0
TokenPlace text r = TruePlace text r.start r.line r.column

-- "a report at its offset"
abbrev pub ReportPlace : List ℕ → Report → Type 0
ReportPlace text r = TruePlace text r.offset r.line r.column

-- "A String's value lies in the string buffer": at its value place, as many bytes as its value length, stand the decoded bytes of its token
abbrev pub ValueIn : Reading → List ℕ → List ℕ → Record → Type 0
ValueIn m text S r =
    r.kind ≡ string_number → (r.value + r.size ≤ length S) × (take r.size (drop r.value S) ≡ string_in m (drop r.start text))

-- "A Duration is written in the bytes from its start to its end", and is the sum of its parts within one nanosecond for each written fraction.
-- A run is written in one way only: laws `same_written` and `same_sign` of go_duration.
abbrev pub DurationSum : List ℕ → Record → Type 0
DurationSum text r = r.kind ≡ duration_number → SumOfParts (bytes_of text r.start r.end) r.nanos

-- the claim about what the three buffers hold: T the numbers of the tokens, S the strings, R the numbers of the reports
pub record Demand3 (m : Reading) (limit : ℕ) (text : List ℕ) (T : List ℤ) (S : List ℕ) (R : List ℤ) : Type 0 where
  -- the buffers hold these records, strings and reports
  pub laid : Laid
  pub held_records : T ≡ record_rows laid.records
  pub held_strings : S ≡ laid.strings
  pub held_reports : R ≡ report_rows laid.reports
  -- demand 2's tokens, strings and reports
  pub as_the_rust : laid ≡ whole_laid m limit text
  -- each String's bytes in the buffer are its value
  pub values : Each (ValueIn m text laid.strings) laid.records
  -- in order, each after its gap, they give the text back byte for byte
  pub tiles : Tiles text 0 laid.records
  pub gives_back : pieces text 0 laid.records ≡ text
  pub gaps : Gaps text 0 laid.records
  pub one_eof : OneEof text laid.records
  pub places : Each (TokenPlace text) laid.records
  pub report_places : Each (ReportPlace text) laid.reports
  pub durations : Each (DurationSum text) laid.records
