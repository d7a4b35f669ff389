-- The contracts of the calls on a text: for every input, the answer and what every buffer holds.
use Rattle.std.specs.Prelude.{◌≡◌, List, ℕ, ◌*◌, ℤ, length, take, Result, Ok}
use Rattle.token.specs.Layout.{record_width, report_width}
use Rattle.token.specs.declared.place.Place.{Place}
use Rattle.lexer.specs.declared.reading.Reading.{Reading}
use Rattle.reading.specs.Buffers.{whole_laid, one_laid, Lays}
use Rattle.reading.specs.Answers.{read_text_answer, read_text_number, read_token_answer, read_token_number}
use Rattle.reading.specs.Claim.{Demand3}
use Rattle.reading.specs.declared.counts.Counts.{Counts}
use Rattle.reading.specs.declared.one.OneToken.{OneToken}
use Rattle.reading.specs.declared.refusal.Refusal.{Refusal}

-- Types that other files explain: `Place` in token/specs/Place.antt; `Reading` in lexer/specs/Reading.antt; `Counts` in Buffers.antt; `OneToken` in
-- Answers.antt; `Refusal` in Refusals.antt.

-- the whole reading
pub record ReadsText (m : Reading) (limit : ℕ) (text : List ℕ) (T : List ℤ) (S : List ℕ) (R : List ℤ)
    (r : Result Counts Refusal) (T' : List ℤ) (S' : List ℕ) (R' : List ℤ) : Type 0 where
  pub answer : r ≡ read_text_answer m limit text (length T) (length S) (length R)
  pub lays : Lays (read_text_number r) (whole_laid m limit text) T S R T' S' R'
  pub claim : (c : Counts) → r ≡ Ok c
      → Demand3 m limit text (take (c.tokens * record_width) T') (take c.strings S') (take (c.reports * report_width) R')

-- one token from a place
pub record ReadsToken (m : Reading) (limit : ℕ) (text : List ℕ) (p : Place) (T : List ℤ) (S : List ℕ) (R : List ℤ)
    (r : Result OneToken Refusal) (T' : List ℤ) (S' : List ℕ) (R' : List ℤ) : Type 0 where
  pub answer : r ≡ read_token_answer m limit text p (length T) (length S) (length R)
  pub lays : Lays (read_token_number r) (one_laid m limit text p.offset) T S R T' S' R'
