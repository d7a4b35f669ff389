-- How much room the tokens of a text can need: for no more string bytes and reports than it has bytes, and one token more. For `read_text`, which
-- need not measure then, and for callers that choose their buffers. By induction on the tokens. Assumes nothing.
use mathlib.Core.Path.{◌≡◌, refl, ap}
use mathlib.Core.Bool.{true}
use mathlib.Core.List.{List, [], ◌∷◌}
use Prim.Native.Nat.{ℕ, ◌+◌, ◌-◌, ◌≤◌}
use native.Mathlib.Omega.{arith}
use lib.ListN.{length, drop}
use Rattle.std.specs.Prelude.{Result, is_ok}
use Rattle.lexeme.specs.declared.Mode.{Mode}
use Rattle.lexeme.specs.declared.Mode.TheVariants.{Strict, Tolerant}
use Rattle.lexer.specs.Reading.{mode_of}
use Rattle.lexer.specs.declared.next.Token.{Token}
use Rattle.lexer.specs.declared.reading.Reading.{Reading}
use Rattle.lexer.proofs.StrictNotes.{strict_notes}
use Rattle.reading.specs.Tokens.{tokens}
use Rattle.reading.specs.Buffers.{strings_of, reports_of, whole_laid}
use Rattle.reading.specs.declared.refusal.Refusal.{Refusal}
use Rattle.reading.proofs.Refusals.{room_checks}
use Rattle.reading.specs.Passes.{Room, most_notes, most_reports, most_counts, suffice_for}
use Rattle.reading.proofs.NextToken.{Read, reads, string_few}
use Rattle.reading.proofs.From.{by_tokens, by_each}
use Rattle.reading.proofs.Rows.{records_length, strings_length, reports_length}

module _ (m : Reading) (limit : ℕ) (text : List ℕ) where
  record Few (at : ℕ) (ts : List Token) : Type 0 where
    strings : length (strings_of m text ts) ≤ length text - at
    reports : length (reports_of m limit text ts) ≤ length text - at

  few_none : Few (length text) []
  unfolding strings_of reports_of
  few_none = search arith

  few_each : (at : ℕ) (t : Token) (ts : List Token) → Read m limit text at t → Few t.end.offset ts → Few at (t ∷ ts)
  few_each at t ts r w =
      record {
        strings = omega (arith, strings_length m limit text t ts, string_few r);
        reports = omega (arith, reports_length m limit text t ts);
      }

  few : Few 0 (tokens m limit text)
  unfolding tokens
  few = by_each m limit text Few few_none few_each 0 (omega arith)

  -- "A string buffer as long as the text always suffices"
  pub strings_fit : length (strings_of m text (tokens m limit text)) ≤ length text
  strings_fit = omega (arith, few.strings)

  -- and so does a report slice of as many reports as the text has bytes, and a token slice of one token more
  pub reports_fit : length (reports_of m limit text (tokens m limit text)) ≤ length text
  reports_fit = omega (arith, few.reports)

  pub tokens_fit : length (tokens m limit text) ≤ length text + 1
  unfolding tokens
  tokens_fit =
      let w =
      by_tokens m limit text (λ at ts. length ts ≤ length text - at + 1) (λ at h e. omega arith)
      (λ at ts h c w. let r = reads m limit text at h in omega (arith, r.forward c)) 0 (omega arith) in
      omega arith

-- no mode has more reports than bytes
pub most_le : (k : Mode) (len : ℕ) → most_notes k len ≤ len
most_le Strict len = omega arith
most_le Tolerant len = omega arith

-- strict lexers make no report
strict_reports : (m : Reading) → mode_of m ≡ Strict → (limit : ℕ) (text : List ℕ) (ts : List Token) → length (reports_of m limit text ts) ≡ 0
unfolding reports_of
strict_reports m e limit text [] = refl
strict_reports m e limit text (t ∷ ts) =
    let none = ap length (strict_notes m e limit (drop t.start.offset text)) in
    omega (arith, reports_length m limit text t ts, strict_reports m e limit text ts)

most_reports_lem : (m : Reading) (limit : ℕ) (text : List ℕ) → length (reports_of m limit text (tokens m limit text)) ≤ most_reports m (length text)
most_reports_lem m limit text = go (mode_of m) refl
  where
    go : (k : Mode) → mode_of m ≡ k → length (reports_of m limit text (tokens m limit text)) ≤ most_notes k (length text)
    go Strict e = omega (arith, strict_reports m e limit text (tokens m limit text))
    go Tolerant e = reports_fit m limit text

-- buffers that suffice for any text of its length suffice for a text
pub suffice_room : (m : Reading) (limit : ℕ) (text : List ℕ) (nt ns nr : ℕ) → suffice_for m (length text) nt ns nr ≡ true
    → Room (whole_laid m limit text) nt ns nr
suffice_room m limit text nt ns nr =
    room_checks (λ (r : Result (Unit {0}) Refusal). is_ok r ≡ true → Room (whole_laid m limit text) nt ns nr) (most_counts m (length text)) nt ns nr
    (λ _ e. absurd cc) (λ _ e. absurd cc) (λ _ e. absurd cc)
    (λ a b c e.
    record {
      for_tokens = omega (arith, records_length 0 (tokens m limit text), tokens_fit m limit text);
      for_strings = omega (arith, strings_fit m limit text);
      for_reports = omega (arith, most_reports_lem m limit text);
    })
