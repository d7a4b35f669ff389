-- The suggestions for a run, as a list that is computed: each candidate in the order of offset and byte, kept where it counts, and put in order.
use Rattle.std.specs.Prelude.{◌&&◌, List, [], ◌∷◌, ◌++◌, ℕ, zero, suc, ◌+◌, eqb, ℤ, length, Option, Some, None}
use Rattle.base.specs.Choice.{pick}
use Rattle.base.specs.Bytes.{byte}
use Rattle.limits.specs.Limits.{max_bytes_literal_length}
use Rattle.token.specs.Kind.{eof_number, duration_number}
use Rattle.token.specs.declared.layout.Record.{Record}
use Rattle.lexer.specs.declared.reading.Reading.TheVariants.{Strict}
use Rattle.reading.specs.Buffers.{whole_laid}
use Rattle.reading.specs.Refusals.{judge_of, after_judge}
use Rattle.suggestion_list.specs.Order.{put_all}
use Rattle.suggestion_list.specs.declared.Suggestion.{Suggestion}
use Rattle.suggest.specs.Counts.{replaced}

-- Types that other files explain: `Record` in token/specs/Layout.antt; `Reading` in lexer/specs/Reading.antt; `Suggestion` in
-- suggestion_list/specs/Order.antt.

-- the nanoseconds of records that are a Duration and the Eof, and nothing else
abbrev pub only_duration : List Record → Option ℤ
only_duration [] = None
only_duration (d ∷ []) = None
only_duration (d ∷ e ∷ []) = pick (eqb d.kind duration_number && eqb e.kind eof_number) (Some d.nanos) None
only_duration (d ∷ e ∷ f ∷ rs) = None

-- the nanoseconds of the one Duration that the strict reader sees in a text; one that it refuses is no Duration
unfoldable pub seen_in : ℕ → List ℕ → Option ℤ
seen_in limit text = after_judge (judge_of text) (λ r. None) (only_duration (whole_laid Strict limit text).records)

-- "a different printable ASCII byte (0x20 to 0x7E)": the first of them, and how many there are
abbrev pub first_byte : ℕ
first_byte = 0x20

abbrev pub byte_count : ℕ
byte_count = 95

-- an entry of what is seen, or none
abbrev pub entry_by : Option ℤ → ℕ → ℕ → List Suggestion
entry_by (Some z) i b = record { nanos = z; offset = i; byte = b } ∷ []
entry_by None i b = []

-- what the byte b gives at the offset i, with the default limit: no text of one Duration has a bytes literal, so that it plays no part
unfoldable pub candidate : List ℕ → ℕ → ℕ → List Suggestion
candidate run i b = pick (eqb b (byte run i)) [] (entry_by (seen_in max_bytes_literal_length (replaced run i b)) i b)

-- what the first n printable bytes give at the offset i
unfoldable pub at_offset : List ℕ → ℕ → ℕ → List Suggestion
at_offset run i zero = []
at_offset run i (suc n) = at_offset run i n ++ candidate run i (first_byte + n)

-- what all of them give at the first n offsets
unfoldable pub up_to : List ℕ → ℕ → List Suggestion
up_to run zero = []
up_to run (suc n) = up_to run n ++ at_offset run n byte_count

-- all suggestions for a run, "least nanoseconds come first, then earliest offset, then lowest byte"
unfoldable pub suggestions_of : List ℕ → List Suggestion
suggestions_of run = put_all [] (up_to run (length run))
