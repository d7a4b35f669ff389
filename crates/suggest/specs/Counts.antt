-- Which replacements count: document 02, #102, "every replacement of one byte by a different printable ASCII byte (0x20 to 0x7E) after which the strict
-- reader sees exactly one Duration and, but for the Eof, nothing else".
use Rattle.std.specs.Prelude.{◌≡◌, List, [], ◌∷◌, ℕ, ◌≤◌, ◌<◌, ℤ, length, set, Ok}
use Rattle.base.specs.Bytes.{byte}
use Rattle.token.specs.Kind.{eof_number, duration_number}
use Rattle.token.specs.declared.layout.Record.{Record}
use Rattle.lexer.specs.declared.reading.Reading.TheVariants.{Strict}
use Rattle.reading.specs.Buffers.{whole_laid}
use Rattle.reading.specs.Refusals.{judge_of}

-- Types that other files explain: `Record` in token/specs/Layout.antt; `Reading` in lexer/specs/Reading.antt.

-- the run with the byte b in place of the one at i
abbrev pub replaced : List ℕ → ℕ → ℕ → List ℕ
replaced run i b = set run i b

-- "every replacement of one byte by a different printable ASCII byte (0x20 to 0x7E)"
pub record Replaces (run : List ℕ) (i b : ℕ) : Type 0 where
  pub inside : i < length run
  pub low : 0x20 ≤ b
  pub high : b ≤ 0x7E
  pub different : b ≡ byte run i → ⊥

-- "exactly one Duration and, but for the Eof, nothing else", and the Duration's nanoseconds
pub record OneDuration (rs : List Record) (z : ℤ) : Type 0 where
  pub first : Record
  pub second : Record
  pub all : rs ≡ first ∷ second ∷ []
  pub duration : first.kind ≡ duration_number
  pub nanos : first.nanos ≡ z
  pub eof : second.kind ≡ eof_number

-- "the strict reader sees": the text passes the checks 1 and 2, and these are the tokens that its whole reading hands over
pub record Sees (limit : ℕ) (text : List ℕ) (z : ℤ) : Type 0 where
  pub accepted : judge_of text ≡ Ok tt
  pub tokens : OneDuration (whole_laid Strict limit text).records z

-- the byte b at the offset i counts, and gives z nanoseconds
pub record Counts (limit : ℕ) (run : List ℕ) (i b : ℕ) (z : ℤ) : Type 0 where
  pub replaces : Replaces run i b
  pub sees : Sees limit (replaced run i b) z
