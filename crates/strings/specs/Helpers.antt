-- Helper definitions, for proofs and inner contracts alone: what measuring a literal gives, and what writing its bytes and reports requires.
use Rattle.std.specs.Prelude.{◌≡◌, List, ℕ, ◌+◌, ◌≤◌, ◌<◌, ℤ, length, drop}
use Rattle.limits.specs.Limits.{max_message_size}
use Rattle.utf8.specs.State.{push_all}
use Rattle.utf8.specs.declared.state.State.{State}
use Rattle.token.specs.Place.{place_at}
use Rattle.token.specs.declared.place.Place.{Place}
use Rattle.lexeme.specs.Helpers.{notes_numbers}
use Rattle.lexeme.specs.declared.Mode.{Mode}
use Rattle.lexeme.specs.declared.Mode.TheVariants.{Strict}
use Rattle.strings.specs.Decode.{Decoded}
use Rattle.strings.specs.Literal.{literal_of, string_notes}
use Rattle.strings.specs.declared.literal.Measure.{Measure}
use Rattle.strings.specs.declared.literal.End.TheVariants as end

-- Types that other files explain: `State` in utf8/specs/State.antt; `Place` in token/specs/Place.antt; `Mode` in lexeme/specs/Lexeme.antt; `End` in
-- Decode.antt.

-- what measuring gives of a decoded literal, after c bytes and n reports, in the state t: the code's `Measure` counts bytes and reports, and has where
-- and how the literal ends and what its last character still wants
abbrev pub measured : ℕ → ℕ → State → Decoded → Measure
measured c n t d = record { count = c + length d.bytes; reports = n + length d.notes; stop = d.stop; end = d.ending; state = push_all t d.bytes }

-- what a String of `lex_string` tells of its literal: the bytes of text that it takes, and how many it stands for. Strict, it is a String only where
-- the closing quote is met
pub record Sized (m : Mode) (s : List ℕ) (len size : ℕ) : Type 0 where
  pub count : length (literal_of m s).bytes ≡ size
  pub stop : (literal_of m s).stop ≡ len
  pub closed : m ≡ Strict → (literal_of m s).ending ≡ end.Closed

-- the numbers of the reports of the literal that starts at the offset a of the text
abbrev pub string_numbers : Mode → List ℕ → ℕ → List ℤ
string_numbers m text a = notes_numbers text a (string_notes m (drop a text))

-- a place of a text that is read, at which a literal starts, and a buffer with room for its reports
pub record NotesFit (m : Mode) (text : List ℕ) (start : Place) (out : List ℤ) (at : ℕ) : Type 0 where
  pub true_place : start ≡ place_at text start.offset
  pub inside : start.offset < length text
  pub short : length text ≤ max_message_size
  pub room : at + length (string_numbers m text start.offset) ≤ length out
