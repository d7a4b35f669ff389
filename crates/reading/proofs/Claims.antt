-- For the claim of `read_text`: demand 3 of what the tokens of a text lay, each field by induction on the tokens from what is known of one. Assumes
-- nothing.
use mathlib.Core.Path.{◌≡◌, refl, sym, ap, ◌∙◌}
use mathlib.Core.Bool.{true, ◌||◌}
use mathlib.Core.Logic.{inl, inr}
use mathlib.Core.List.{List, [], ◌∷◌, ◌++◌, map}
use Prim.Native.Nat.{ℕ, ◌+◌, ◌-◌, ◌≤◌}
use native.Mathlib.Nat.{pos_of_ne-zero}
use native.Mathlib.Omega.{arith}
use lib.Dec.{eqb}
use lib.ListN.{length, drop, take-append-drop, length-drop}
use lib.Seq.{drop-drop, drop-length}
use borrow.Author.Tests.{eqb-true}
use Rattle.base.specs.Bytes.{byte}
use Rattle.base.specs.Classes.{is_space}
use Rattle.base.proofs.Tests.{or_case}
use Rattle.token.specs.Place.{place_at}
use Rattle.token.specs.declared.layout.Record.{Record}
use Rattle.token.specs.declared.place.Place.{Place}
use Rattle.token.proofs.Places.{place_offset, place_line, place_column}
use Rattle.lexeme.specs.Lexeme.{Note}
use Rattle.lexeme.specs.Reports.{report_of}
use Rattle.lexer.specs.declared.next.Token.{Token}
use Rattle.lexer.specs.declared.reading.Reading.{Reading}
use Rattle.lexeme.proofs.Notes as notes
use Rattle.reading.specs.Tokens.{tokens_from, tokens}
use Rattle.reading.specs.Buffers.{record_of, records_of, reports_of, record_rows, report_rows, whole_laid}
use Rattle.reading.specs.Claim as claim
use Rattle.reading.specs.Claim.{bytes_of, pieces, Tiles, Blank, Gaps, OneEof, TruePlace, Each, TokenPlace, ReportPlace, DurationSum, Demand3}
use Rattle.reading.proofs.NextToken.{Read, reads, notes_at, reports_at}
use Rattle.reading.proofs.From.{by_tokens, by_each}
use Rattle.reading.proofs.Laid.{string_values}

blank : (b : ℕ) → is_space b ≡ true → Blank b
unfolding is_space
blank b e =
    or_case (eqb b 32 || eqb b 9) (eqb b 13) e
    (λ f. or_case (eqb b 32) (eqb b 9) f (λ g. inl (eqb-true _ _ g)) (λ g. inr (inl (eqb-true _ _ g)))) (λ g. inr (inr (eqb-true _ _ g)))

-- the bytes up to an offset, and then the rest
rejoin : (text : List ℕ) (a b : ℕ) → a ≤ b → bytes_of text a b ++ drop b text ≡ drop a text
rejoin text a b h =
    let e : a + (b - a) ≡ b = omega arith in
    rw (drop-drop (b - a) a text, e) at (take-append-drop (b - a) (drop a text))

-- the place of an offset is true
true_place : (text : List ℕ) (i : ℕ) (p : Place) → p ≡ place_at text i → i ≤ length text → TruePlace text p.offset p.line p.column
true_place text i p e h =
    let o : p.offset ≡ i = ap (λ (q : Place). q.offset) e ∙ place_offset text i h in
    record {
      inside = omega arith;
      line = ap (λ (q : Place). q.line) e ∙ rw o (place_line text i);
      column = ap (λ (q : Place). q.column) e ∙ rw o (place_column text i);
    }

-- something that holds of each element of two lists holds of each of both
each_append : {A : Type 0} {P : A → Type 0} {xs ys : List A} → Each P xs → Each P ys → Each P (xs ++ ys)
each_append claim.none ys = ys
each_append (claim.more x xs) ys = claim.more x (each_append xs ys)

-- what holds of the records of tokens from an offset on
record Holds (text : List ℕ) (at : ℕ) (rs : List Record) : Type 0 where
  tiles : Tiles text at rs
  gives_back : pieces text at rs ≡ drop at text
  gaps : Gaps text at rs
  places : Each (TokenPlace text) rs
  durations : Each (DurationSum text) rs

module _ (m : Reading) (limit : ℕ) (text : List ℕ) where
  module _ (at : ℕ) (t : Token) (r : Read m limit text at t) where
    holds_each : (p : ℕ) (rs : List Record) → Holds text t.end.offset rs → Holds text at (record_of p t ∷ rs)
    holds_each p rs w =
        record {
          tiles = claim.more r.after r.ordered r.inside w.tiles;
          gives_back =
              rw (w.gives_back, rejoin text t.start.offset t.end.offset r.ordered, rejoin text at t.start.offset r.after);
          gaps = claim.more (λ k a b. blank (byte text k) (r.gap k a b)) w.gaps;
          places =
              claim.more (true_place text t.start.offset t.start r.start_true (omega (arith, r.ordered, r.inside))) w.places;
          durations = claim.more r.duration w.durations;
        }

    -- its reports
    report_places : Each (ReportPlace text) (reports_at m limit text t)
    unfolding report_of
    report_places = go (notes_at m limit text t) r.notes_in_lem
      where
        go : (ns : List Note) → notes.NotesIn (length (drop t.start.offset text)) ns
            → Each (ReportPlace text) (map (report_of text t.start.offset) ns)
        go [] notes.none = claim.none
        go (n ∷ ns) (notes.more i w) =
            claim.more
            (true_place text (t.start.offset + n.offset) (place_at text (t.start.offset + n.offset)) refl
            (omega (arith, r.ordered, r.inside, length-drop t.start.offset text)))
            (go ns w)

  holds : (p : ℕ) → Holds text 0 (records_of p (tokens_from m limit text 0))
  unfolding records_of
  holds =
      by_each m limit text (λ at ts. (p : ℕ) → Holds text at (records_of p ts))
      (λ p.
      record {
        tiles = claim.none;
        gives_back = sym (drop-length text);
        gaps = claim.none;
        places = claim.none;
        durations = claim.none;
      })
      (λ at t ts r w p. holds_each at t r p _ (w _)) 0 (omega arith)

  one_eof : (p : ℕ) → OneEof text (records_of p (tokens_from m limit text 0))
  unfolding records_of
  one_eof =
      by_tokens m limit text (λ at ts. (p : ℕ) → OneEof text (records_of p ts))
      (λ at h e p. let r = reads m limit text at h in claim.last e (r.eof_start e) (r.eof_end e))
      (λ at ts h c w p. claim.more (pos_of_ne-zero c) ((reads m limit text at h).forward c) (w _)) 0 (omega arith)

  reports_placed : Each (ReportPlace text) (reports_of m limit text (tokens_from m limit text 0))
  unfolding reports_of
  reports_placed =
      by_each m limit text (λ at ts. Each (ReportPlace text) (reports_of m limit text ts)) claim.none
      (λ at t ts r w. each_append (report_places at t r) w) 0 (omega arith)

  -- demand 3, over the definitions
  pub demand_3 : let l = whole_laid m limit text in
      Demand3 m limit text (record_rows l.records) l.strings (report_rows l.reports)
  unfolding tokens
  demand_3 =
      let w = holds 0 in
      record {
        laid = whole_laid m limit text;
        held_records = refl;
        held_strings = refl;
        held_reports = refl;
        as_the_rust = refl;
        values = string_values m limit text;
        tiles = w.tiles;
        gives_back = w.gives_back;
        gaps = w.gaps;
        one_eof = one_eof 0;
        places = w.places;
        report_places = reports_placed;
        durations = w.durations;
      }
