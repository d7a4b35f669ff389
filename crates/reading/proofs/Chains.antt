-- The chain of calls of `read_token` (`Chain`): calls from the first place on lay what the whole reading lays, by induction on the calls; and from a
-- place none is refused, by induction on the tokens, each of which ends at a place (`next_utf8`). Assumes nothing.
use mathlib.Core.Path.{◌≡◌, refl, sym, ap, ◌∙◌}
use mathlib.Core.Bool.{Bool, true, false}
use mathlib.Core.List.{List, [], ◌∷◌}
use Prim.Native.Nat.{ℕ, ◌+◌, ◌*◌, ◌≤◌}
use native.Mathlib.Nat.{pos_of_ne-zero}
use native.Mathlib.Omega.{arith}
use lib.IntN.{ℤ}
use lib.ListN.{length}
use lib.Seq.{sets}
use Rattle.base.specs.Choice.{pick}
use Rattle.limits.specs.Limits.{max_message_size}
use Rattle.utf8.specs.Grammar.{valid_to}
use Rattle.utf8.specs.Check.{check_of}
use Rattle.std.specs.Prelude.{Ok}
use Rattle.utf8.proofs.Boundaries.{boundary_start, boundary_between, not_inside}
use Rattle.utf8.proofs.Valid.{checked, whole_end_lem}
use Rattle.token.specs.Kind.{kind_number, is_string}
use Rattle.token.specs.Layout.{record_width, report_width, record_numbers}
use Rattle.token.specs.Place.{first_place, place_at}
use Rattle.token.specs.declared.layout.Record.{Record}
use Rattle.token.specs.declared.layout.Report.{Report}
use Rattle.token.specs.declared.place.Place.{Place}
use Rattle.token.proofs.KindNumbers.{IsEof}
use Rattle.lexer.specs.Token.{found_at, next_token, string_size}
use Rattle.lexer.specs.declared.next.Token.{Token}
use Rattle.lexer.specs.declared.reading.Reading.{Reading}
use Rattle.lexer.proofs.FoundToken.{next_utf8}
use Rattle.reading.specs.Tokens.{tokens_from, tokens}
use Rattle.reading.specs.Buffers.{record_of, records_of, strings_of, reports_of, record_rows, Laid, laid_from, whole_laid, one_laid}
use Rattle.reading.specs.Passes.{Room}
use Rattle.reading.specs.Answers.{is_place}
use Rattle.reading.specs.Chain.{of_one, Call, with_value, moved_by, Calls, last, more, ChainGivesWhole, ChainRuns}
use Rattle.reading.proofs.NextToken.{string_at, reports_at, numbers_at, Read, string_few, reads, end_offset}
use Rattle.reading.proofs.From.{from_eof, from_more, by_tokens}
use Rattle.reading.proofs.Rows.{same_record, same_reports, records_length, one_strings, one_reports, one_count, one_rows}
use Rattle.reading.proofs.Rows.{held_records, held_strings, held_reports}
use Rattle.reading.proofs.Refusals.{fits, room_answer}
use Rattle.reading.proofs.Places.{place_is, is_place_lem}
use Rattle.reading.proofs.TokenAnswers.{done}
use Rattle.reading.proofs.AnswerBounds.{one_counted, one_end}

module _ (m : Reading) (limit : ℕ) (text : List ℕ) where
  -- the token after a place
  abbrev token : Place → Token
  token p = next_token m limit text p.offset

  -- what an accepted call gives
  record Given (p : Place) (r : Record) (bytes : List ℕ) (reports : List Report) (q : Place) : Type 0 where
    row : r ≡ record_of 0 (token p)
    string : bytes ≡ string_at m text (token p)
    reported : reports ≡ reports_at m limit text (token p)
    end : q ≡ (token p).end

  given : {p q : Place} {r : Record} {bytes : List ℕ} {reports : List Report} → Call m limit text p (of_one r bytes reports) q → Given p r bytes reports q
  unfolding records_of record_rows
  given {p} {q} {r} {bytes} {reports} c =
      let t = token p in
      let w = c.reads.lays in
      let n = one_counted c.reads refl in
      record {
        row = same_record r (record_of 0 t) (sym c.stored ∙ held_records w n);
        string = sym c.written ∙ held_strings w n ∙ one_strings m limit text t;
        reported = same_reports reports _ (sym c.reported ∙ held_reports w n) ∙ one_reports m limit text t;
        end = one_end c.reads refl;
      }

  -- a record moved is the record of the token with its string there
  moved_is : (n : ℕ) (t : Token) → moved_by n (record_of 0 t) ≡ record_of n t
  moved_is n t = ap (λ (v : ℕ). with_value v (record_of 0 t)) (go (is_string t.kind))
    where
      go : (b : Bool) → pick b (n + pick b 0 t.value) (pick b 0 t.value) ≡ pick b n t.value
      go true = omega arith
      go false = refl

  -- ---- what calls lay is what the tokens lay

  gives : {n : ℕ} {p : Place} {l : Laid} → Calls m limit text n p l → p.offset ≤ length text
      → l ≡ laid_from m limit text n (tokens_from m limit text p.offset)
  unfolding records_of strings_of reports_of
  gives (last {n} {p} {q} {r} {bytes} {reports} c z) h =
      let t = token p in
      let g = given c in
      let e : IsEof t.kind = sym (ap (λ (x : Record). x.kind) g.row) ∙ z in
      rw (from_eof m limit text p.offset h e, one_strings m limit text t, one_reports m limit text t, g.row, g.string, g.reported, moved_is n t)
  gives (more {n} {p} {q} {r} {bytes} {reports} {l} c z w) h =
      let t = token p in
      let g = given c in
      let k : kind_number t.kind ≡ r.kind = sym (ap (λ (x : Record). x.kind) g.row) in
      let r' : Read m limit text p.offset t = reads m limit text p.offset h in
      let o : q.offset ≡ t.end.offset = ap (λ (x : Place). x.offset) g.end in
      let b : length bytes ≡ string_size t.kind t.size = ap length g.string ∙ r'.string in
      let v = rw (b, o) at (gives w (omega arith)) in
      rw (from_more m limit text p.offset h (λ e. absurd (omega arith)), g.row, g.string, g.reported, moved_is n t, v)

  -- calls from the first place on lay what the whole reading lays
  pub chain_gives_whole : ChainGivesWhole m limit text
  unfolding tokens
  chain_gives_whole l c = gives c (omega arith)

  -- ---- no call is refused

  module _ (h : length text ≤ max_message_size) (g : check_of text ≡ Ok tt) where
    valid : valid_to text ≡ length text
    valid = sym (whole_end_lem text (Ok tt) (checked text (Ok tt) (sym g)) refl)

    first_is_place : is_place text first_place ≡ true
    unfolding place_at
    first_is_place =
        is_place_lem text first_place
        (record { inside = omega arith; between = boundary_between text 0 (boundary_start text valid); true_place = refl })

    -- and so is the place at the end of a token that is read from a place
    end_is_place : (p : Place) → is_place text p ≡ true → is_place text (token p).end ≡ true
    unfolding next_token
    end_is_place p f =
        let w = place_is text p f in
        let at = p.offset in
        let r = reads m limit text at w.inside in
        let b = (next_utf8 m limit text at (not_inside text at valid w.inside w.between).boundary).end in
        is_place_lem text _
        (record {
          inside = r.inside;
          between = boundary_between text _ (rw (end_offset m limit text at w.inside (found_at m limit text at) refl) b);
          true_place = r.end_true;
        })

    module _ (T : List ℤ) (S : List ℕ) (R : List ℤ) (rt : record_width ≤ length T) (rs : length text ≤ length S)
        (rr : length text * report_width ≤ length R) where
      -- a call from a place
      call : (p : Place) → is_place text p ≡ true
          → let t = token p in Call m limit text p (of_one (record_of 0 t) (string_at m text t) (reports_at m limit text t)) t.end
      unfolding records_of record_rows
      call p f =
          let t = token p in
          let r = reads m limit text p.offset (place_is text p f).inside in
          let z = string_few r in
          let held : Room (one_laid m limit text p.offset) (length T) (length S) (length R) =
          record {
            for_tokens = omega (arith, records_length 0 (t ∷ []));
            for_strings = omega (arith, ap length (one_strings m limit text t));
            for_reports = omega (arith, one_count m limit text t);
          } in
          let d =
          done
          (record {
            fit = fits text h g;
            place = f;
            token = refl;
            size = refl;
            room = room_answer held;
          })
          (record {
            records = refl;
            strings = ap (sets S 0) (sym (one_strings m limit text t));
            reports = ap (sets R 0) (sym (one_rows m limit text t));
          }) in
          let n = one_counted d refl in
          record {
            T = T;
            S = S;
            R = R;
            T' = sets T 0 (record_numbers (record_of 0 t));
            S' = sets S 0 (string_at m text t);
            R' = sets R 0 (numbers_at m limit text t);
            s = string_size t.kind t.size;
            k = t.reports;
            reads = d;
            stored = held_records d.lays n;
            written = rw (one_strings m limit text t) at (held_strings d.lays n);
            reported = rw (one_reports m limit text t) at (held_reports d.lays n);
          }

      -- the calls from it on
      Runs : ℕ → List Token → Type 0
      Runs at ts = (n : ℕ) (p : Place) → p.offset ≡ at → is_place text p ≡ true → Calls m limit text n p (laid_from m limit text n ts)

      runs : (at : ℕ) → at ≤ length text → Runs at (tokens_from m limit text at)
      unfolding Runs records_of strings_of reports_of
      runs =
          by_tokens m limit text Runs
          (λ at l z n p o f.
          let t = token p in
          rw (← o, one_strings m limit text t, one_reports m limit text t, ← moved_is n t) (last (call p f) (rw (← o) at z)))
          (λ at ts l c w n p o f.
          let t = token p in
          let e : t.end.offset ≡ (next_token m limit text at).end.offset = rw o in
          let b = (reads m limit text p.offset (place_is text p f).inside).string in
          rw (← o, ← moved_is n t, ← b)
          (more (call p f) (pos_of_ne-zero (rw (← o) at c)) (w (n + length (string_at m text t)) t.end e (end_is_place p f))))

      from_start : Calls m limit text 0 first_place (whole_laid m limit text)
      unfolding tokens Runs
      from_start = runs 0 (omega arith) 0 first_place refl first_is_place

  -- no call from the first place on is refused
  pub chain_runs : ChainRuns m limit text
  chain_runs h g T S R rt rs rr = from_start h g T S R rt rs rr
