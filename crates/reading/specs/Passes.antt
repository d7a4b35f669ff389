-- Helper definitions, for proofs and inner contracts alone: the two passes of a reading, and what a token lays into each buffer.
use Rattle.std.specs.Prelude.{◌≡◌, Bool, List, ℕ, ◌+◌, ◌*◌, ◌≤◌, ℤ, length, drop, is_ok}
use Rattle.std.proofs.lemmas.List.Edits.{sets}
use Rattle.limits.specs.Limits.{max_message_size}
use Rattle.token.specs.Layout.{record_width, report_width, record_numbers}
use Rattle.token.specs.Helpers.{RecordFits, Walkable}
use Rattle.lexeme.specs.Helpers.{notes_numbers}
use Rattle.lexeme.specs.declared.Mode.{Mode}
use Rattle.lexeme.specs.declared.Mode.TheVariants.{Strict, Tolerant}
use Rattle.lexer.specs.Reading.{mode_of, lexeme_in, string_in, notes_in}
use Rattle.lexer.specs.Token.{string_size}
use Rattle.lexer.specs.declared.next.Token.{Token}
use Rattle.lexer.specs.declared.reading.Reading.{Reading}
use Rattle.reading.specs.Buffers.{record_of, record_rows, report_rows, Laid}
use Rattle.reading.specs.Refusals.{room_of}
use Rattle.reading.specs.declared.counts.Counts.{Counts}
use Rattle.reading.specs.declared.put.Buffers.{Buffers}

-- Types of the code (src/put.rt). `Buffers`: the three lent buffers, `tokens`, `strings` and `reports`.
-- Types that other files explain: `Mode` in lexeme/specs/Lexeme.antt; `Token` in lexer/specs/Token.antt; `Reading` in lexer/specs/Reading.antt; `Counts` in
-- Buffers.antt.

-- counts that a text which is read can have, so that their products with the widths do not wrap
pub record Few (c : Counts) : Type 0 where
  pub tokens : c.tokens ≤ max_message_size + 1
  pub reports : c.reports ≤ max_message_size

-- buffers of nt numbers, ns bytes and nr numbers hold "the complete result"
pub record Room (l : Laid) (nt ns nr : ℕ) : Type 0 where
  pub for_tokens : length l.records * record_width ≤ nt
  pub for_strings : length l.strings ≤ ns
  pub for_reports : length l.reports * report_width ≤ nr

-- the same of lent buffers
abbrev pub RoomIn : Laid → Buffers → Type 0
RoomIn l b = Room l (length b.tokens.now) (length b.strings.now) (length b.reports.now)

-- what the second pass stores, from each buffer's start
pub record AllStored (l : Laid) (T : List ℤ) (S : List ℕ) (R T' : List ℤ) (S' : List ℕ) (R' : List ℤ) : Type 0 where
  pub records : T' ≡ sets T 0 (record_rows l.records)
  pub strings : S' ≡ sets S 0 l.strings
  pub reports : R' ≡ sets R 0 (report_rows l.reports)

-- the same of lent buffers
abbrev pub StoredIn : Laid → Buffers → Buffers → Type 0
StoredIn l b b' = AllStored l b.tokens.now b.strings.now b.reports.now b'.tokens.now b'.strings.now b'.reports.now

-- a token whose string starts at p, small enough for a record, and room for it at i
pub record RecordRoom (p : ℕ) (t : Token) (room i : ℕ) : Type 0 where
  pub fits : RecordFits (record_of p t)
  pub inside : i + record_width ≤ room

-- room for the string of a token of the text, which has as many bytes as it counts
pub record StringRoom (m : Reading) (text : List ℕ) (t : Token) (room at : ℕ) : Type 0 where
  pub inside : t.start.offset ≤ length text
  pub counted : length (string_in m (drop t.start.offset text)) ≡ string_size t.kind t.size
  pub fits : at + length (string_in m (drop t.start.offset text)) ≤ room
  pub limit : ℕ
  pub ends : t.start.offset + (lexeme_in m limit (drop t.start.offset text)).len ≡ t.end.offset

-- room for the reports of a token of the text, of which there are as many as it counts
pub record NotesRoom (m : Reading) (limit : ℕ) (text : List ℕ) (t : Token) (room at : ℕ) : Type 0 where
  pub counted : length (notes_in m limit (drop t.start.offset text)) ≡ t.reports
  pub walkable : Walkable text t.start t.start.offset
  pub fits : at + length (notes_numbers text t.start.offset (notes_in m limit (drop t.start.offset text))) ≤ room

-- room for all of a token, after what is counted
pub record TokenRoom (m : Reading) (limit : ℕ) (text : List ℕ) (t : Token) (c : Counts) (b : Buffers) : Type 0 where
  pub of_record : RecordRoom c.strings t (length b.tokens.now) (c.tokens * record_width)
  pub of_string : StringRoom m text t (length b.strings.now) c.strings
  pub of_notes : NotesRoom m limit text t (length b.reports.now) (c.reports * report_width)

-- what it lays into the buffers, after what is counted
pub record TokenPut (m : Reading) (limit : ℕ) (text : List ℕ) (t : Token) (c : Counts) (b b' : Buffers) : Type 0 where
  pub of_record : b'.tokens.now ≡ sets b.tokens.now (c.tokens * record_width) (record_numbers (record_of c.strings t))
  pub of_string : b'.strings.now ≡ sets b.strings.now c.strings (string_in m (drop t.start.offset text))
  pub of_notes : b'.reports.now
      ≡ sets b.reports.now (c.reports * report_width) (notes_numbers text t.start.offset (notes_in m limit (drop t.start.offset text)))

-- the loans of b' are those of b
pub record SameBuffers (b b' : Buffers) : Type 0 where
  pub tokens : b'.tokens.ghost_name ≡ b.tokens.ghost_name
  pub strings : b'.strings.ghost_name ≡ b.strings.ghost_name
  pub reports : b'.reports.ghost_name ≡ b.reports.ghost_name

-- how many reports a text of so many bytes can have: strict lexers make none
abbrev pub most_notes : Mode → ℕ → ℕ
most_notes Strict len = 0
most_notes Tolerant len = len

-- the same in a reading
abbrev pub most_reports : Reading → ℕ → ℕ
most_reports m len = most_notes (mode_of m) len

-- the most that a text of so many bytes can have
abbrev pub most_counts : Reading → ℕ → Counts
most_counts m len = record { tokens = len + 1; strings = len; reports = most_reports m len }

-- buffers of nt numbers, ns bytes and nr numbers that hold the result of any text of so many bytes
abbrev pub suffice_for : Reading → ℕ → ℕ → ℕ → ℕ → Bool
suffice_for m len nt ns nr = is_ok (room_of (most_counts m len) nt ns nr)
