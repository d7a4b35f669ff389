-- What the functions on texts give to a C program: document 01's number of the answer, its values, and the buffers after the call.
use Rattle.std.specs.Prelude.{◌≡◌, List, [], ◌∷◌, ℕ, eqb, ℤ, pos, length, get_or}
use Rattle.base.specs.Choice.{pick}
use Rattle.token.specs.declared.place.Place.{Place}
use Rattle.lexer.specs.declared.reading.Reading.{Reading}
use Rattle.lexer.specs.declared.reading.Reading.TheVariants.{Strict, Tolerant}
use Rattle.reading.specs.Answers.{read_text_answer, read_text_number, read_text_values, read_token_answer, read_token_number, read_token_values}
use Rattle.reading.specs.Answers.{place_of_answer, place_of_number, place_of_values}
use Rattle.reading.specs.Calls.{ReadsText, ReadsToken}

-- Types that other files explain: `Place` in token/specs/Place.antt; `Reading` in lexer/specs/Reading.antt.

-- "0 strict, 1 tolerant. Any other number is read as strict"
abbrev pub reading_of : ℕ → Reading
reading_of n = pick (eqb n 1) Tolerant Strict

-- the six numbers of an answer: "A number that the call does not give is 0"
abbrev pub six_of : List ℕ → List ℤ
six_of vs = pos (get_or vs 0 0) ∷ pos (get_or vs 1 0) ∷ pos (get_or vs 2 0) ∷ pos (get_or vs 3 0) ∷ pos (get_or vs 4 0) ∷ pos (get_or vs 5 0) ∷ []

-- the place of three numbers
abbrev pub place_of : ℕ → ℕ → ℕ → Place
place_of offset line column = record { offset = offset; line = line; column = column }

-- `pxf_read_text`: the number, the values, and the buffers as the whole reading leaves them
pub record TextRead (mode limit : ℕ) (text : List ℕ) (T : List ℤ) (S : List ℕ) (R : List ℤ)
    (r : ℕ) (T' : List ℤ) (S' : List ℕ) (R' A' : List ℤ) : Type 0 where
  pub number : r ≡ read_text_number (read_text_answer (reading_of mode) limit text (length T) (length S) (length R))
  pub answer : A' ≡ six_of (read_text_values (read_text_answer (reading_of mode) limit text (length T) (length S) (length R)))
  pub reads : ReadsText (reading_of mode) limit text T S R (read_text_answer (reading_of mode) limit text (length T) (length S) (length R)) T' S' R'

-- `pxf_read_token`: the number, the values, and the buffers as the reading of one token leaves them
pub record TokenRead (offset line column mode limit : ℕ) (text : List ℕ) (T : List ℤ) (S : List ℕ) (R : List ℤ)
    (r : ℕ) (T' : List ℤ) (S' : List ℕ) (R' A' : List ℤ) : Type 0 where
  pub number : r ≡ read_token_number (read_token_answer (reading_of mode) limit text (place_of offset line column) (length T) (length S) (length R))
  pub answer : A' ≡ six_of (read_token_values (read_token_answer (reading_of mode) limit text (place_of offset line column) (length T) (length S) (length R)))
  pub reads : ReadsToken (reading_of mode) limit text (place_of offset line column) T S R
      (read_token_answer (reading_of mode) limit text (place_of offset line column) (length T) (length S) (length R)) T' S' R'

-- `pxf_place_of`: the number and the values
pub record PlaceGiven (offset : ℕ) (text : List ℕ) (r : ℕ) (A' : List ℤ) : Type 0 where
  pub number : r ≡ place_of_number (place_of_answer text offset)
  pub answer : A' ≡ six_of (place_of_values (place_of_answer text offset))
