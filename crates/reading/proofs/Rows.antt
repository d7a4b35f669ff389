-- What is laid of tokens, as lists: lengths, a token before others, one token alone, and that rows of numbers are those of no other records or
-- reports. For `measure`, `write`, `read_token` and the chain of calls. By induction on the lists. Assumes nothing.
use mathlib.Core.Path.{◌≡◌, refl, ap, ◌∙◌}
use mathlib.Core.List.{List, [], ◌∷◌, ◌++◌, map, append-nil}
use Prim.Native.Nat.{ℕ, suc, ◌+◌, ◌*◌, ◌≤◌}
use native.Mathlib.Omega.{arith}
use lib.IntN.{ℤ, pos, nat_abs}
use lib.ListN.{length, take, drop, get_or, length-append, length-map}
use lib.Seq.{take_at}
use Rattle.base.proofs.Stores.{overlaid}
use Rattle.token.specs.Layout.{record_width, report_width, record_numbers}
use Rattle.token.specs.declared.layout.Record.{Record}
use Rattle.token.specs.declared.layout.Report.{Report}
use Rattle.lexeme.specs.Lexeme.{Note}
use Rattle.lexeme.specs.Reports.{report_of}
use Rattle.lexeme.specs.Helpers.{notes_numbers}
use Rattle.lexer.specs.Token.{string_size}
use Rattle.lexer.specs.declared.next.Token.{Token}
use Rattle.lexer.specs.declared.reading.Reading.{Reading}
use Rattle.reading.proofs.NextToken.{string_at, notes_at, reports_at, numbers_at}
use Rattle.reading.specs.Buffers.{record_of, records_of, strings_of, reports_of, record_rows, report_rows, Laid, counts_of, Lays}
use Rattle.reading.specs.Passes.{Room, AllStored}
use Rattle.reading.specs.declared.counts.Counts.{Counts}

-- ---- lengths and rows of lists

pub records_length : (p : ℕ) (ts : List Token) → length (records_of p ts) ≡ length ts
unfolding records_of
records_length p [] = refl
records_length p (t ∷ ts) = ap suc (records_length (p + string_size t.kind t.size) ts)

record_rows_length : (rs : List Record) → length (record_rows rs) ≡ length rs * record_width
unfolding record_rows
record_rows_length [] = refl
record_rows_length (r ∷ rs) = omega (arith, record_rows_length rs)

report_rows_length : (rs : List Report) → length (report_rows rs) ≡ length rs * report_width
unfolding report_rows
report_rows_length [] = refl
report_rows_length (r ∷ rs) = omega (arith, report_rows_length rs)

report_rows_append : (ps qs : List Report) → report_rows (ps ++ qs) ≡ report_rows ps ++ report_rows qs
unfolding report_rows
report_rows_append [] qs = refl
report_rows_append (p ∷ ps) qs = rw (report_rows_append ps qs)

-- the rows of a token's reports
notes_rows : (text : List ℕ) (a : ℕ) (ns : List Note) → report_rows (map (report_of text a) ns) ≡ notes_numbers text a ns
unfolding report_rows notes_numbers
notes_rows text a [] = refl
notes_rows text a (n ∷ ns) = rw (notes_rows text a ns)

-- ---- what tokens lay

module _ (m : Reading) (limit : ℕ) (text : List ℕ) (t : Token) where
  -- one token before others
  module _ (ts : List Token) where
    pub records_more : (p : ℕ)
        → record_rows (records_of p (t ∷ ts)) ≡ record_numbers (record_of p t) ++ record_rows (records_of (p + string_size t.kind t.size) ts)
    unfolding records_of record_rows
    records_more p = refl

    pub strings_more : strings_of m text (t ∷ ts) ≡ string_at m text t ++ strings_of m text ts
    unfolding strings_of
    strings_more = refl

    pub strings_length : length (strings_of m text (t ∷ ts)) ≡ length (string_at m text t) + length (strings_of m text ts)
    strings_length = rw strings_more (length-append (string_at m text t) (strings_of m text ts))

    pub reports_length : length (reports_of m limit text (t ∷ ts)) ≡ length (notes_at m limit text t) + length (reports_of m limit text ts)
    unfolding reports_of
    reports_length = simp (length-append, length-map)

    pub reports_more : report_rows (reports_of m limit text (t ∷ ts)) ≡ numbers_at m limit text t ++ report_rows (reports_of m limit text ts)
    unfolding reports_of
    reports_more = report_rows_append (reports_at m limit text t) (reports_of m limit text ts) ∙ rw (notes_rows text t.start.offset (notes_at m limit text t))

  -- one token alone
  pub one_strings : strings_of m text (t ∷ []) ≡ string_at m text t
  unfolding strings_of
  one_strings = append-nil (string_at m text t)

  pub one_reports : reports_of m limit text (t ∷ []) ≡ reports_at m limit text t
  unfolding reports_of
  one_reports = append-nil (reports_at m limit text t)

  pub one_count : length (reports_of m limit text (t ∷ [])) ≡ length (notes_at m limit text t)
  one_count = rw one_reports (length-map (notes_at m limit text t) (report_of text t.start.offset))

  pub one_rows : report_rows (reports_of m limit text (t ∷ [])) ≡ numbers_at m limit text t
  one_rows = rw one_reports (notes_rows text t.start.offset (notes_at m limit text t))

-- ---- rows are those of no other records or reports

-- the record, and the report, that a row of numbers stores
abbrev record_from : List ℤ → Record
record_from l =
    record {
      kind = nat_abs (get_or l 0 (pos 0));
      reason = nat_abs (get_or l 1 (pos 0));
      detail = nat_abs (get_or l 2 (pos 0));
      start = nat_abs (get_or l 3 (pos 0));
      end = nat_abs (get_or l 4 (pos 0));
      line = nat_abs (get_or l 5 (pos 0));
      column = nat_abs (get_or l 6 (pos 0));
      value = nat_abs (get_or l 7 (pos 0));
      size = nat_abs (get_or l 8 (pos 0));
      precision = nat_abs (get_or l 9 (pos 0));
      digits = nat_abs (get_or l 10 (pos 0));
      nanos = get_or l 11 (pos 0);
    }

abbrev report_from : List ℤ → Report
report_from l =
    record {
      reason = nat_abs (get_or l 0 (pos 0));
      detail = nat_abs (get_or l 1 (pos 0));
      offset = nat_abs (get_or l 2 (pos 0));
      line = nat_abs (get_or l 3 (pos 0));
      column = nat_abs (get_or l 4 (pos 0));
    }

-- equal numbers are those of equal records
pub same_record : (r q : Record) → record_numbers r ≡ record_numbers q → r ≡ q
same_record r q e = ap record_from e

pub same_reports : (rs qs : List Report) → report_rows rs ≡ report_rows qs → rs ≡ qs
unfolding report_rows
same_reports [] [] e = refl
same_reports [] (q ∷ qs) e = cc
same_reports (r ∷ rs) [] e = cc
same_reports (r ∷ rs) (q ∷ qs) e =
    let h : r ≡ q = ap report_from e in
    let i = same_reports rs qs (ap (drop report_width) e) in
    cc

-- ---- the buffers

-- stores from the front on lay what they store, where there is room
pub written_lays : {l : Laid} {T : List ℤ} {S : List ℕ} {R T' : List ℤ} {S' : List ℕ} {R' : List ℤ} → Room l (length T) (length S) (length R)
    → AllStored l T S R T' S' R' → Lays 0 l T S R T' S' R'
written_lays {l} {T} {S} {R} h w =
    record {
      records = w.records ∙ overlaid (record_rows l.records) T (omega (arith, record_rows_length l.records, h.for_tokens));
      strings = w.strings ∙ overlaid l.strings S h.for_strings;
      reports = w.reports ∙ overlaid (report_rows l.reports) R (omega (arith, report_rows_length l.reports, h.for_reports));
    }

-- and so does what stands elsewhere as they stored it
pub held_by : {l : Laid} {T : List ℤ} {S : List ℕ} {R T' T'' : List ℤ} {S' S'' : List ℕ} {R' R'' : List ℤ} → AllStored l T S R T' S' R'
    → T'' ≡ T' → S'' ≡ S' → R'' ≡ R' → AllStored l T S R T'' S'' R''
held_by d t s r = rw (t, s, r) d

-- as much as is counted of what is laid lies in the buffers, and is what they hold first
module _ {l : Laid} {T : List ℤ} {S : List ℕ} {R T' : List ℤ} {S' : List ℕ} {R' : List ℤ} (w : Lays 0 l T S R T' S' R')
    {c : Counts} (q : c ≡ counts_of l) where
  pub lies_inside : (c.tokens * record_width ≤ length T') × (c.strings ≤ length S') × (c.reports * report_width ≤ length R')
  lies_inside = (
    rw (w.records, q) (simp length-append (omega (arith, record_rows_length l.records))),
    rw (w.strings, q) (simp length-append (omega arith)),
    rw (w.reports, q) (simp length-append (omega (arith, report_rows_length l.reports))),
  )

  pub held_records : take (c.tokens * record_width) T' ≡ record_rows l.records
  held_records = rw (w.records, q) (take_at (record_rows l.records) _ _ (record_rows_length l.records))

  pub held_strings : take c.strings S' ≡ l.strings
  held_strings = rw (w.strings, q) (take_at l.strings _ _ refl)

  pub held_reports : take (c.reports * report_width) R' ≡ report_rows l.reports
  held_reports = rw (w.reports, q) (take_at (report_rows l.reports) _ _ (report_rows_length l.reports))
