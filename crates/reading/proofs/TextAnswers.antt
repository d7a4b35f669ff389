-- For `read_text`: its answers, each from the tests that led to it; an accepted one has demand 3 of what the buffers hold. Assumes nothing.
use mathlib.Core.Path.{◌≡◌}
use mathlib.Core.List.{List}
use Prim.Native.Nat.{ℕ}
use native.Mathlib.Omega.{arith}
use lib.IntN.{ℤ}
use lib.ListN.{length}
use Rattle.std.specs.Prelude.{Ok, Err}
use Rattle.lexer.specs.Reading.{mode_of}
use Rattle.lexer.specs.declared.reading.Reading.{Reading}
use Rattle.reading.specs.Tokens.{tokens}
use Rattle.reading.specs.Buffers.{whole_laid, counts_of}
use Rattle.reading.specs.Refusals.{judge_of, room_of}
use Rattle.reading.specs.Answers.{read_text_answer}
use Rattle.reading.specs.Calls.{ReadsText}
use Rattle.reading.specs.Passes.{Few, Room, AllStored, most_counts}
use Rattle.reading.specs.declared.counts.Counts.{Counts}
use Rattle.reading.specs.declared.refusal.Refusal.{Refusal}
use Rattle.reading.proofs.Refusals.{untouched, fitting, room_answer}
use Rattle.reading.proofs.Rows.{records_length, written_lays, held_records, held_strings, held_reports}
use Rattle.reading.proofs.Fits.{most_le, tokens_fit, reports_fit}
use Rattle.reading.proofs.Claims.{demand_3}

-- the products of the counts and the widths do not wrap: of the most that the text can have, and of what is laid
pub most_few : (m : Reading) (text : List ℕ) → judge_of text ≡ Ok tt → {c : Counts} → c ≡ most_counts m (length text) → Few c
most_few m text j e =
    let h = (fitting text j).0 in
    rw e (record { tokens = omega arith; reports = omega (arith, most_le (mode_of m) (length text)) })

pub few : (m : Reading) (limit : ℕ) (text : List ℕ) → judge_of text ≡ Ok tt → {c : Counts} → c ≡ counts_of (whole_laid m limit text) → Few c
few m limit text j e =
    let h = (fitting text j).0 in
    rw e
    (record {
      tokens = omega (arith, records_length 0 (tokens m limit text), tokens_fit m limit text);
      reports = omega (arith, reports_fit m limit text);
    })

module _ {m : Reading} {limit : ℕ} {text : List ℕ} {T : List ℤ} {S : List ℕ} {R : List ℤ} where
  -- a refusal leaves the buffers as they are, and makes no claim
  refused : (x : Refusal) → Err x ≡ read_text_answer m limit text (length T) (length S) (length R) → ReadsText m limit text T S R (Err x) T S R
  refused x e = record { answer = e; lays = untouched x (whole_laid m limit text) T S R; claim = λ c q. absurd cc }

  pub unfit : {x : Refusal} → judge_of text ≡ Err x → ReadsText m limit text T S R (Err x) T S R
  unfolding read_text_answer
  unfit {x} j = refused x (rw j)

  module _ (j : judge_of text ≡ Ok tt) where
    pub short : {x : Refusal} → room_of (counts_of (whole_laid m limit text)) (length T) (length S) (length R) ≡ Err x
        → ReadsText m limit text T S R (Err x) T S R
    unfolding read_text_answer
    short {x} s = refused x (rw (j, s))

    pub done : {c : Counts} → c ≡ counts_of (whole_laid m limit text) → Room (whole_laid m limit text) (length T) (length S) (length R)
        → {T' : List ℤ} {S' : List ℕ} {R' : List ℤ} → AllStored (whole_laid m limit text) T S R T' S' R'
        → ReadsText m limit text T S R (Ok c) T' S' R'
    unfolding read_text_answer
    done {c} e h d =
        let v = written_lays h d in
        record {
          answer = rw (j, room_answer h, e);
          lays = v;
          claim = λ b q.
              let u : b ≡ counts_of (whole_laid m limit text) = cc in
              rw (held_records v u, held_strings v u, held_reports v u) (demand_3 m limit text);
        }
