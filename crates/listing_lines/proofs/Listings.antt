-- For `list`: an accepted reading leaves rows whose lines are those of the tokens, any other is listed by its number, and a short out buffer leaves
-- all as it was. By cases on the answer. Assumes nothing.
use mathlib.Core.Path.{◌≡◌, refl, sym, ap, ◌∙◌}
use mathlib.Core.Bool.{Bool, true, false}
use mathlib.Core.Logic.{◌⊎◌, inl, inr, ⊎_elim}
use mathlib.Core.List.{List, ◌++◌}
use Prim.Native.Nat.{ℕ, ◌/◌, ◌≤◌, ◌<◌}
use native.Mathlib.Omega.{arith}
use lib.Dec.{eqb, ltb}
use lib.IntN.{ℤ}
use lib.ListN.{length, take, drop}
use Rattle.std.specs.Prelude.{Result, Ok, Err}
use lib.Seq.{sets}
use borrow.Author.Tests.{ltb-true, ltb-false, le-ltb}
use Rattle.std.specs.Simd.{first_chunks}
use Rattle.token.specs.Layout.{record_width}
use Rattle.limits.specs.Limits.{max_bytes_literal_length}
use Rattle.lexer.specs.declared.reading.Reading.TheVariants.{Strict}
use Rattle.reading.specs.Buffers.{record_rows, whole_laid}
use Rattle.reading.specs.Refusals.{refusal_number, judge_of, after_judge}
use Rattle.reading.specs.Answers.{read_text_answer, read_text_number}
use Rattle.reading.specs.Calls.{ReadsText}
use Rattle.reading.specs.declared.counts.Counts.{Counts}
use Rattle.reading.specs.declared.refusal.Refusal.{Refusal}
use Rattle.reading.proofs.Refusals.{number_some}
use Rattle.reading.proofs.AnswerBounds.{counted, text_inside}
use Rattle.listing_lines.specs.Lines.{refused_line}
use Rattle.listing_lines.specs.Listing.{token_lines, listing_of, lines_size, Fills, Untouched, Lists}
use Rattle.listing_lines.specs.Rows.{rows_lines}
use Rattle.listing_lines.specs.declared.OutShort.{OutShort}
use Rattle.listing_lines.proofs.Fills.{whole_fills, short_out}
use Rattle.listing_lines.proofs.Lines.{first_of_chunks, rows_held}

-- an answer accepts, or its number is not 0
answered : (r : Result Counts Refusal) → ((c : Counts) × (r ≡ Ok c)) ⊎ (eqb (read_text_number r) 0 ≡ false)
answered (Ok c) = inl (c, refl)
answered (Err x) = inr (number_some x)

module _ {text : List ℕ} {T : List ℤ} {S : List ℕ} {R : List ℤ} {r : Result Counts Refusal} {T' : List ℤ} {S' : List ℕ} {R' : List ℤ}
    (w : ReadsText Strict max_bytes_literal_length text T S R r T' S' R') where
  -- lines that are those of the answer fill the out buffer as the contract says, where it is not shorter than the tokens' lines
  lists : {lines O : List ℕ} {l : Result ℕ OutShort} {O' : List ℕ} → lines_size text ≤ length O → Fills lines O l O' → lines ≡ listing_of text r
      → Lists text T S R O l T' S' R' O'
  lists h f e =
      record {
        short = λ k. absurd (omega arith);
        enough = λ k. record {
          reads = rw w.answer at w;
          fills = rw (e, w.answer) at f;
        };
      }

  module _ {c : Counts} (e : r ≡ Ok c) where
    -- the lines of the rows that it counts are those of the tokens
    rows_are : rows_lines (first_chunks record_width c.tokens T') ≡ token_lines text
    rows_are =
        let rs = (whole_laid Strict max_bytes_literal_length text).records in
        let d : T' ≡ record_rows rs ++ drop (length (record_rows rs)) T = rw e at w.lays.records in
        rw (counted w e, d) (rows_held rs (drop (length (record_rows rs)) T))

    module _ {rows : List (List ℤ)} (q : rows ≡ first_chunks record_width (length T' / record_width) T') (n : length rows ≡ length T' / record_width) where
      pub rows_inside : c.tokens ≤ length rows
      rows_inside = omega (arith, n, (text_inside w e).0)

      pub lines_are : rows_lines (take c.tokens rows) ≡ token_lines text
      lines_are = rw (q, first_of_chunks c.tokens (length T' / record_width) T' (omega (arith, (text_inside w e).0))) rows_are

    -- which were counted before
    pub size_is : lines_size text ≡ length (token_lines text)
    unfolding read_text_answer lines_size
    size_is = go (judge_of text) _ (sym e ∙ w.answer)
      where
        go : (j : Result (Unit {0}) Refusal) (x : Result Counts Refusal) → Ok c ≡ after_judge j Err x
            → after_judge j (λ i. 0) (length (token_lines text)) ≡ length (token_lines text)
        go (Err i) x q = cc
        go (Ok i) x q = refl

    pub tokens_listed : {O : List ℕ} {lines : List ℕ} {n : ℕ} {O' : List ℕ} → lines_size text ≤ length O → lines ≡ token_lines text
        → n ≡ length lines → O' ≡ sets O 0 lines → Lists text T S R O (Ok n) T' S' R' O'
    tokens_listed {O} h l q o =
        let z : listing_of text r ≡ token_lines text = rw e in
        lists h (whole_fills (token_lines text) O (q ∙ ap length l) (rw size_is at h) (o ∙ ap (sets O 0) l)) (sym z)

  pub refusal_listed : {x : Refusal} → r ≡ Err x → (number : ℕ) → number ≡ refusal_number x → {O : List ℕ} → lines_size text ≤ length O
      → {l : Result ℕ OutShort} {O' : List ℕ} → Fills (refused_line number) O l O' → Lists text T S R O l T' S' R' O'
  refusal_listed {x} e number q h f = lists h f (rw (e, q, number_some x))

-- a short out buffer leaves everything as it was
pub short_listed : (text : List ℕ) (T : List ℤ) (S : List ℕ) (R : List ℤ) (O : List ℕ) → length O < lines_size text
    → Lists text T S R O (Err (record {})) T S R O
short_listed text T S R O h =
    record {
      short = λ k. record { answer = refl; tokens = refl; strings = refl; reports = refl; out = refl };
      enough = λ k. absurd (omega arith);
    }

-- whenever the answer is that the out buffer is short, nothing is written to any buffer
module _ {text : List ℕ} {T : List ℤ} {S : List ℕ} {R : List ℤ} {O : List ℕ} {r : Result ℕ OutShort} {T' : List ℤ} {S' : List ℕ} {R' : List ℤ}
    {O' : List ℕ} (w : Lists text T S R O r T' S' R' O') (e : r ≡ Err (record {})) where
  -- after a reading it was the line of a refusal that was too long: the tokens' lines have been measured before
  refused : (x : Result Counts Refusal) → lines_size text ≤ length O → ReadsText Strict max_bytes_literal_length text T S R x T' S' R'
      → Fills (listing_of text x) O r O'
      → Untouched T S R O r T' S' R' O'
  refused x h u f = ⊎_elim (λ a. accepted a.1) (λ z. kept z) (answered x)
    where
      accepted : {c : Counts} → x ≡ Ok c → Untouched T S R O r T' S' R' O'
      accepted a =
          let q : ltb (length O) (length (token_lines text)) ≡ false = le-ltb _ _ (rw (size_is u a) at h) in
          let b : r ≡ Ok (length (token_lines text)) = rw (a, q) at f.answer in
          absurd cc

      kept : eqb (read_text_number x) 0 ≡ false → Untouched T S R O r T' S' R' O'
      kept z =
          record {
            answer = e;
            tokens = rw z at u.lays.records;
            strings = rw z at u.lays.strings;
            reports = rw z at u.lays.reports;
            out = short_out f e;
          }

  pub nothing_written : Untouched T S R O r T' S' R' O'
  nothing_written = go (ltb (length O) (lines_size text)) refl
    where
      go : (b : Bool) → ltb (length O) (lines_size text) ≡ b → Untouched T S R O r T' S' R' O'
      go true q = w.short (ltb-true _ _ q)
      go false q = let h = ltb-false _ _ q in let f = w.enough h in refused _ h f.reads f.fills
