-- What is known of the token after an offset, for all laws of tokens: the lexer's laws of the token found, at the offsets of its places. Assumes
-- nothing.
use mathlib.Core.Path.{◌≡◌, refl, sym, subst}
use mathlib.Core.Bool.{true}
use mathlib.Core.List.{List, map}
use Prim.Native.Nat.{ℕ, ◌+◌, ◌-◌, ◌≤◌, ◌<◌}
use native.Mathlib.Omega.{arith}
use lib.Dec.{eqb}
use lib.IntN.{ℤ}
use lib.ListN.{length, take, drop, length-drop}
use Rattle.std.specs.Prelude.{Option, Some, None}
use Rattle.base.specs.Bytes.{byte, AreBytes}
use Rattle.base.specs.Classes.{is_space}
use Rattle.base.proofs.Tests.{pick_le}
use Rattle.go_duration.specs.Written.{SumOfParts}
use Rattle.token.specs.Kind.{kind_number, duration_number, is_string}
use Rattle.token.specs.Place.{place_at}
use Rattle.token.specs.Reason.{number_of}
use Rattle.token.specs.Helpers.{Bounded, last_reason}
use Rattle.token.specs.declared.layout.Report.{Report}
use Rattle.token.specs.declared.reason.Reason.{Reason}
use Rattle.token.proofs.KindNumbers.{IsEof}
use Rattle.token.proofs.ReasonNumbers.{reason_le}
use Rattle.token.proofs.Places.{place_offset, place_bounded, offset_put}
use Rattle.lexeme.specs.Lexeme.{Note}
use Rattle.lexeme.specs.Reports.{report_of}
use Rattle.lexeme.specs.Helpers.{notes_numbers}
use Rattle.lexeme.proofs.Notes.{NotesIn}
use Rattle.scan.proofs.Scanned.{StampRun}
use Rattle.lexer.specs.Reading.{lexeme_in, string_in, notes_in}
use Rattle.lexer.specs.Token.{found_at, found_end, token_of, next_token, string_size}
use Rattle.lexer.specs.declared.next.Found.{Found}
use Rattle.lexer.specs.declared.next.Token.{Token}
use Rattle.lexer.specs.declared.reading.Reading.{Reading}
use Rattle.lexer.proofs.FoundToken.{next_of, bytes_drop}

-- a token's string, its notes, the reports that these are, and the numbers that are stored of them
abbrev pub string_at : Reading → List ℕ → Token → List ℕ
string_at m text t = string_in m (drop t.start.offset text)

abbrev pub notes_at : Reading → ℕ → List ℕ → Token → List Note
notes_at m limit text t = notes_in m limit (drop t.start.offset text)

abbrev pub reports_at : Reading → ℕ → List ℕ → Token → List Report
reports_at m limit text t = map (report_of text t.start.offset) (notes_at m limit text t)

abbrev pub numbers_at : Reading → ℕ → List ℕ → Token → List ℤ
numbers_at m limit text t = notes_numbers text t.start.offset (notes_at m limit text t)

-- the number of a token's reason is at most the last
pub reason_in : (r : Option Reason) → number_of r ≤ last_reason
reason_in None = omega arith
reason_in (Some r) = reason_le r

-- what is known of the token t after the offset `at`
pub record Read (m : Reading) (limit : ℕ) (text : List ℕ) (at : ℕ) (t : Token) : Type 0 where
  pub after : at ≤ t.start.offset
  pub gap : (k : ℕ) → at ≤ k → k < t.start.offset → is_space (byte text k) ≡ true
  pub ordered : t.start.offset ≤ t.end.offset
  pub inside : t.end.offset ≤ length text
  pub forward : (IsEof t.kind → ⊥) → t.start.offset < t.end.offset
  pub eof_start : IsEof t.kind → t.start.offset ≡ length text
  pub eof_end : IsEof t.kind → t.end.offset ≡ length text
  pub start_true : t.start ≡ place_at text t.start.offset
  pub end_true : t.end ≡ place_at text t.end.offset
  pub value_in : t.value + t.size ≤ t.end.offset
  pub size_in : t.start.offset + t.size ≤ t.end.offset
  pub precision_in : t.precision ≤ t.end.offset
  pub digits_in : t.digits ≤ t.end.offset
  pub reports_in : t.start.offset + t.reports ≤ t.end.offset
  pub detail_in : AreBytes text → t.detail < 0x200000
  pub ends : t.start.offset + (lexeme_in m limit (drop t.start.offset text)).len ≡ t.end.offset
  pub string : length (string_at m text t) ≡ string_size t.kind t.size
  pub notes : length (notes_at m limit text t) ≡ t.reports
  pub notes_in_lem : NotesIn (length (drop t.start.offset text)) (notes_at m limit text t)
  pub duration : kind_number t.kind ≡ duration_number
      → SumOfParts (take (t.end.offset - t.start.offset) (drop t.start.offset text)) t.nanos
  pub timestamp : StampRun t.kind t.reason (take (t.end.offset - t.start.offset) (drop t.start.offset text))

module _ {m : Reading} {limit : ℕ} {text : List ℕ} {at : ℕ} {t : Token} (r : Read m limit text at t) where
  -- lines and columns are at most one past their offset
  pub start_bounded : Bounded t.start
  start_bounded = rw r.start_true (place_bounded text t.start.offset (omega (arith, r.ordered, r.inside)))

  pub end_bounded : Bounded t.end
  end_bounded = rw r.end_true (place_bounded text t.end.offset r.inside)

  -- what it adds to the counts of string bytes and reports is at most what it takes of the text
  pub string_few : string_size t.kind t.size ≤ t.end.offset - t.start.offset
  unfolding string_size
  string_few = pick_le (is_string t.kind) (omega (arith, r.size_in)) (omega arith)

module _ (m : Reading) (limit : ℕ) (text : List ℕ) (at : ℕ) (h : at ≤ length text) where
  -- the offsets of the places of the token found
  module _ (f : Found) (e : f ≡ found_at m limit text at) where
    start_offset : (place_at text f.start).offset ≡ f.start
    start_offset = place_offset text f.start (next_of m limit text at h f e).start_in

    pub end_offset : (place_at text (found_end f)).offset ≡ found_end f
    end_offset = place_offset text (found_end f) (next_of m limit text at h f e).inside

    found_ends : f.start + (lexeme_in m limit (drop f.start text)).len ≡ found_end f
    unfolding found_at
    found_ends = subst (λ (g : Found). g.start + (lexeme_in m limit (drop g.start text)).len ≡ found_end g) (sym e) refl

    found_read : Read m limit text at (token_of text f)
    found_read =
        let n = next_of m limit text at h f e in
        let x = n.lexes in
        let l = length-drop f.start text in
        let d : found_end f - f.start ≡ f.lexeme.len = omega arith in
        rw (start_offset, end_offset)
        (record {
          after = n.after;
          gap = n.gap;
          ordered = omega arith;
          inside = n.inside;
          forward = λ c. omega (arith, x.advances c);
          eof_start = λ c. omega (arith, x.eof_at_end c, l, n.start_in);
          eof_end = λ c. omega (arith, x.eof_at_end c, l, n.inside);
          start_true = offset_put (place_at text f.start) f.start start_offset;
          end_true = offset_put (place_at text (found_end f)) (found_end f) end_offset;
          value_in = omega (arith, x.value_in);
          size_in = omega (arith, x.value_in);
          precision_in = pick_le (eqb f.lexeme.digits 0) (omega arith) (omega (arith, x.precision_in));
          digits_in = omega (arith, x.precision_in);
          reports_in = omega (arith, x.reports_in);
          detail_in = λ bytes. x.detail_in (bytes_drop text f.start bytes);
          ends = found_ends;
          string = x.string_counted;
          notes = x.notes_counted;
          notes_in_lem = x.notes_within;
          duration = λ k. rw d (x.duration k);
          timestamp = rw d x.timestamp;
        })

  pub reads : Read m limit text at (next_token m limit text at)
  unfolding next_token
  reads = found_read (found_at m limit text at) refl
