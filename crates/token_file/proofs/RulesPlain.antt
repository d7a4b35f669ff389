-- For `write_token_file`, the round trips, and readers: the test of the record rules is true exactly where they hold in plain logic, and rows that keep
-- them are few enough for a 32-bit count. By cases on the tests, and by induction on the rows. Assumes nothing.
use mathlib.Core.Path.{◌≡◌, refl, sym, ◌∙◌}
use mathlib.Core.Bool.{Bool, true, not, ◌&&◌}
use mathlib.Core.List.{List, [], ◌∷◌}
use mathlib.Core.Logic.{◌↔◌}
use Prim.Native.Nat.{ℕ, ◌+◌, ◌*◌, ◌≤◌, ◌<◌}
use native.Mathlib.Omega.{arith}
use lib.Dec.{leb, eqb}
use lib.IntN.{ℤ}
use lib.ListN.{length}
use borrow.Author.Tests.{leb-true, le-leb, ltb-true, lt-ltb, eqb-true, eqb-false, eq-eqb, ne_eqb, not-true}
use Rattle.base.specs.Bytes.{within}
use Rattle.base.proofs.Tests.{and_left, and_right, true_false, pick_case, inside, within_low, within_high}
use Rattle.limits.specs.Limits.{max_message_size}
use Rattle.token.specs.Kind.{eof_number, last_number}
use Rattle.token.specs.Layout.{record_width}
use Rattle.token.specs.Reason.{reason_ok}
use Rattle.token_file.specs.Rules.{rows_of, natural_rows, last_place, span_ok, row_ok, rows_ok, RowRules, RowsRules}
use Rattle.token_file.specs.Calls.{records_ok}
use Rattle.token_file.specs.declared.row.Row.{Row}

-- ---- spans

module _ (kind start end : ℕ) where
  span_eof : span_ok kind start end ≡ true → kind ≡ eof_number → start ≡ end
  span_eof t e = eqb-true start end (rw (eq-eqb kind eof_number e) at t)

  span_other : span_ok kind start end ≡ true → (kind ≡ eof_number → ⊥) → start < end
  span_other t n = ltb-true start end (rw (ne_eqb kind eof_number n) at t)

  span_test : (kind ≡ eof_number → start ≡ end) → ((kind ≡ eof_number → ⊥) → start < end) → span_ok kind start end ≡ true
  span_test i o =
      pick_case (λ t. t ≡ true) (eqb kind eof_number) (λ e. eq-eqb start end (i (eqb-true kind eof_number e)))
      (λ e. lt-ltb start end (o (eqb-false kind eof_number e)))

-- ---- one row

module _ (ok : ℕ → ℕ → Bool) (prev : ℕ) (r : Row) where
  row_all : (a b d e f g h : Bool) → leb r.kind last_number ≡ a → ok r.kind r.reason ≡ b → span_ok r.kind r.start r.end ≡ d
      → leb prev r.start ≡ e → leb r.end max_message_size ≡ f → within 1 last_place r.line ≡ g → within 1 last_place r.column ≡ h
      → a && (b && (d && (e && (f && (g && h))))) ≡ true → RowRules ok prev r
  row_all a b d e f g h ea eb ed ee ef eg eh t =
      let t₁ = and_right a (b && (d && (e && (f && (g && h))))) t in
      let t₂ = and_right b (d && (e && (f && (g && h)))) t₁ in
      let t₃ = and_right d (e && (f && (g && h))) t₂ in
      let t₄ = and_right e (f && (g && h)) t₃ in
      let t₅ = and_right f (g && h) t₄ in
      let pd : span_ok r.kind r.start r.end ≡ true = ed ∙ and_left d (e && (f && (g && h))) t₂ in
      let pg : within 1 last_place r.line ≡ true = eg ∙ and_left g h t₅ in
      let ph : within 1 last_place r.column ≡ true = eh ∙ and_right g h t₅ in
      record {
        kind = leb-true r.kind last_number (ea ∙ and_left a (b && (d && (e && (f && (g && h))))) t);
        reason = eb ∙ and_left b (d && (e && (f && (g && h)))) t₁;
        span_eof = span_eof r.kind r.start r.end pd;
        span_other = span_other r.kind r.start r.end pd;
        order = leb-true prev r.start (ee ∙ and_left e (f && (g && h)) t₃);
        end = leb-true r.end max_message_size (ef ∙ and_left f (g && h) t₄);
        line = (within_low 1 last_place r.line pg, within_high 1 last_place r.line pg);
        column = (within_low 1 last_place r.column ph, within_high 1 last_place r.column ph);
      }

  pub row_plain : row_ok ok prev r ≡ true → RowRules ok prev r
  unfolding row_ok
  row_plain t = row_all _ _ _ _ _ _ _ refl refl refl refl refl refl refl t

  pub row_test : RowRules ok prev r → row_ok ok prev r ≡ true
  unfolding row_ok
  row_test h =
      rw (
        le-leb r.kind last_number h.kind,
        h.reason,
        span_test r.kind r.start r.end h.span_eof h.span_other,
        le-leb prev r.start h.order,
        le-leb r.end max_message_size h.end,
        inside 1 last_place r.line h.line.0 h.line.1,
        inside 1 last_place r.column h.column.0 h.column.1,
      )

-- ---- all rows

module _ (ok : ℕ → ℕ → Bool) where
  pub rows_plain : (prev : ℕ) (rs : List Row) → rows_ok ok prev rs ≡ true → RowsRules ok prev rs
  unfolding rows_ok
  rows_plain prev [] t = true_false true refl (sym t)
  rows_plain prev (r ∷ []) t =
      RowsRules.last (eqb-true r.kind eof_number (and_left (eqb r.kind eof_number) (row_ok ok prev r) t))
      (row_plain ok prev r (and_right (eqb r.kind eof_number) (row_ok ok prev r) t))
  rows_plain prev (r ∷ (q ∷ rs)) t =
      let k = and_left (not (eqb r.kind eof_number)) (row_ok ok prev r && rows_ok ok r.end (q ∷ rs)) t in
      let u = and_right (not (eqb r.kind eof_number)) (row_ok ok prev r && rows_ok ok r.end (q ∷ rs)) t in
      RowsRules.more (eqb-false r.kind eof_number (not-true (eqb r.kind eof_number) k))
      (row_plain ok prev r (and_left (row_ok ok prev r) (rows_ok ok r.end (q ∷ rs)) u))
      (rows_plain r.end (q ∷ rs) (and_right (row_ok ok prev r) (rows_ok ok r.end (q ∷ rs)) u))

  pub rows_test : {prev : ℕ} {rs : List Row} → RowsRules ok prev rs → rows_ok ok prev rs ≡ true
  unfolding rows_ok
  rows_test (RowsRules.last {prev} {r} k h) = rw (eq-eqb r.kind eof_number k, row_test ok prev r h)
  rows_test (RowsRules.more {prev} {r} k h w) = rw (ne_eqb r.kind eof_number k, row_test ok prev r h, rows_test w)

  -- the test is true exactly where the rules hold
  pub rules_plain : (prev : ℕ) (rs : List Row) → (rows_ok ok prev rs ≡ true) ↔ RowsRules ok prev rs
  rules_plain prev rs = (rows_plain prev rs, rows_test)

-- ---- records

-- what the writer takes: "The writer gets a slice and a count; too short a slice is 8", no kept number below 0, and the rules of the rows
pub record RecordsRules (records : List ℤ) (count : ℕ) : Type 0 where
  pub slice : count * record_width ≤ length records
  pub natural : natural_rows count records ≡ true
  pub rows : RowsRules reason_ok 0 (rows_of count records)

module _ (records : List ℤ) (count : ℕ) where
  pub records_plain : records_ok records count ≡ true → RecordsRules records count
  unfolding records_ok
  records_plain t =
      let a = leb (count * record_width) (length records) in
      let b = natural_rows count records in
      let d = rows_ok reason_ok 0 (rows_of count records) in
      let u = and_right a (b && d) t in
      record {
        slice = leb-true (count * record_width) (length records) (and_left a (b && d) t);
        natural = and_left b d u;
        rows = rows_plain reason_ok 0 (rows_of count records) (and_right b d u);
      }

  records_test : RecordsRules records count → records_ok records count ≡ true
  unfolding records_ok
  records_test h = rw (le-leb (count * record_width) (length records) h.slice, h.natural, rows_test reason_ok h.rows)

  pub records_rules : (records_ok records count ≡ true) ↔ RecordsRules records count
  records_rules = (records_plain, records_test)

-- ---- how many rows there can be

module _ {ok : ℕ → ℕ → Bool} where
  -- each row but the last ends at least one byte after the row before it
  rows_few : {prev : ℕ} {rs : List Row} → RowsRules ok prev rs → prev + length rs ≤ max_message_size + 1
  rows_few (RowsRules.last k h) = omega (arith, h.order, h.end, h.span_eof k)
  rows_few (RowsRules.more k h w) = omega (arith, h.order, h.span_other k, rows_few w)

  -- a count of rows that keep the rules fits 32 bits
  pub count_small : {prev : ℕ} {rs : List Row} → RowsRules ok prev rs → length rs ≤ max_message_size + 1
  count_small w = omega (arith, rows_few w)
