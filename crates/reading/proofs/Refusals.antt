-- The checks of the calls on a text, for their answers: a refusal's number is not 0 and it lays nothing; what each check answers, from its test; and
-- what holds of every refusal that can come and of what stands behind the checks, holds of the answer. By cases on the tests. Assumes nothing.
use mathlib.Core.Path.{◌≡◌, refl, sym, ap, ◌∙◌}
use mathlib.Core.Bool.{Bool, true, false}
use mathlib.Core.List.{List}
use Prim.Native.Nat.{ℕ, ◌*◌, ◌≤◌, ◌<◌}
use lib.Dec.{ltb, eqb}
use lib.IntN.{ℤ}
use lib.ListN.{length}
use Rattle.std.specs.Prelude.{Result, Ok, Err}
use Rattle.std.specs.Result.{IsErrAnd}
use Rattle.std.proofs.lemmas.Result.{err_from_is_err_and}
use borrow.Author.Tests.{ltb-true, ltb-false, le-ltb}
use Rattle.base.specs.Choice.{pick}
use Rattle.base.proofs.Tests.{pick_case}
use Rattle.limits.specs.Limits.{max_message_size}
use Rattle.utf8.specs.Grammar.{Octets}
use Rattle.utf8.specs.Check.{check_of}
use Rattle.utf8.specs.declared.check.Utf8Error.{Utf8Error}
use Rattle.utf8.proofs.Valid.{checked}
use Rattle.token.specs.Layout.{record_width, report_width}
use Rattle.reading.specs.Buffers.{Laid, Lays, counts_of}
use Rattle.reading.specs.Passes.{Room}
use Rattle.reading.specs.Refusals.{refusal_number, after_check, judge_of, after_judge, room_of, after_room}
use Rattle.reading.specs.declared.counts.Counts.{Counts}
use Rattle.reading.specs.declared.refusal.Refusal.{Refusal}
use Rattle.reading.specs.declared.refusal.Refusal.TheVariants.{TooLong, NotUtf8, NoPlace, TokensShort, StringsShort, ReportsShort}

-- the exit of a `?` gives the refusal that it has
pub refusal_is : {T : Type 0} {x : Refusal} {r : Result T Refusal} → IsErrAnd r (λ y. y ≡ x) → r ≡ Err x
refusal_is {r = r} e = let p = err_from_is_err_and r e in p.1 ∙ ap Err p.2

-- a refusal's number is not 0
pub number_some : (r : Refusal) → eqb (refusal_number r) 0 ≡ false
number_some TooLong = refl
number_some (NotUtf8 n) = refl
number_some NoPlace = refl
number_some TokensShort = refl
number_some StringsShort = refl
number_some ReportsShort = refl

-- a refusal leaves the buffers as they are
pub untouched : (r : Refusal) (l : Laid) (T : List ℤ) (S : List ℕ) (R : List ℤ) → Lays (refusal_number r) l T S R T S R
untouched r l T S R =
    let z = number_some r in
    record { records = rw z; strings = rw z; reports = rw z }

module _ (text : List ℕ) where
  -- the three answers of the checks, each under its condition
  pub judge_case : (P : Result (Unit {0}) Refusal → Type 0) → (max_message_size < length text → P (Err TooLong))
      → ((n : ℕ) → length text ≤ max_message_size → check_of text ≡ Err (record { valid_up_to = n }) → P (Err (NotUtf8 n)))
      → (length text ≤ max_message_size → check_of text ≡ Ok tt → P (Ok tt)) → P (judge_of text)
  unfolding judge_of
  judge_case P long ill fit = go (ltb max_message_size (length text)) (check_of text) refl refl
    where
      go : (b : Bool) (v : Result (Unit {0}) Utf8Error) → ltb max_message_size (length text) ≡ b → check_of text ≡ v
          → P (pick b (Err TooLong) (after_check v (λ n. Err (NotUtf8 n)) (Ok tt)))
      go true v p q = long (ltb-true _ _ p)
      go false (Err e) p q = ill e.valid_up_to (ltb-false _ _ p) q
      go false (Ok u) p q = fit (ltb-false _ _ p) q

  -- a text that fits is short enough and well formed
  pub fitting : judge_of text ≡ Ok tt → (length text ≤ max_message_size) × (check_of text ≡ Ok tt)
  fitting =
      judge_case (λ (j : Result (Unit {0}) Refusal). j ≡ Ok tt → (length text ≤ max_message_size) × (check_of text ≡ Ok tt))
      (λ _ e. absurd cc) (λ n _ _ e. absurd cc) (λ h g e. (h, g))

  -- and such a text fits
  pub fits : length text ≤ max_message_size → check_of text ≡ Ok tt → judge_of text ≡ Ok tt
  unfolding judge_of
  fits h g = rw (le-ltb _ _ h, g)

  -- a text that passes the check is well formed by the grammar
  pub well_octets : check_of text ≡ Ok tt → Octets text
  well_octets g = (checked text (Ok tt) (sym g)).whole refl

-- the four answers of checks 4, 5 and 6, each under its condition
pub room_checks : (P : Result (Unit {0}) Refusal → Type 0) (c : Counts) (nt ns nr : ℕ) → (nt < c.tokens * record_width → P (Err TokensShort))
    → (ns < c.strings → P (Err StringsShort)) → (nr < c.reports * report_width → P (Err ReportsShort))
    → (c.tokens * record_width ≤ nt → c.strings ≤ ns → c.reports * report_width ≤ nr → P (Ok tt)) → P (room_of c nt ns nr)
unfolding room_of
room_checks P c nt ns nr tokens strings reports enough =
    pick_case P (ltb nt (c.tokens * record_width)) (λ e. tokens (ltb-true _ _ e))
    (λ t. pick_case P (ltb ns c.strings) (λ e. strings (ltb-true _ _ e))
    (λ s. pick_case P (ltb nr (c.reports * report_width)) (λ e. reports (ltb-true _ _ e))
    (λ r. enough (ltb-false _ _ t) (ltb-false _ _ s) (ltb-false _ _ r))))

module _ {l : Laid} {nt ns nr : ℕ} where
  -- buffers that pass hold what is laid
  pub enough : room_of (counts_of l) nt ns nr ≡ Ok tt → Room l nt ns nr
  enough =
      room_checks (λ (r : Result (Unit {0}) Refusal). r ≡ Ok tt → Room l nt ns nr) (counts_of l) nt ns nr (λ _ e. absurd cc) (λ _ e. absurd cc)
      (λ _ e. absurd cc) (λ t s r e. record { for_tokens = t; for_strings = s; for_reports = r })

  -- and such buffers pass
  pub room_answer : Room l nt ns nr → room_of (counts_of l) nt ns nr ≡ Ok tt
  unfolding room_of
  room_answer h = rw (le-ltb _ _ h.for_tokens, le-ltb _ _ h.for_strings, le-ltb _ _ h.for_reports)

module _ {A : Type 0} (P : A → Type 0) (refuse : Refusal → A) {a : A} where
  -- after checks 1 and 2
  pub judged_case : (text : List ℕ) → ((x : Refusal) → judge_of text ≡ Err x → P (refuse x)) → (judge_of text ≡ Ok tt → P a)
      → P (after_judge (judge_of text) refuse a)
  judged_case text unfit fit = go (judge_of text) refl
    where
      go : (j : Result (Unit {0}) Refusal) → judge_of text ≡ j → P (after_judge j refuse a)
      go (Err x) e = unfit x e
      go (Ok x) e = fit e

  -- after checks 4, 5 and 6
  pub room_case : (l : Laid) (nt ns nr : ℕ) → (nt < length l.records * record_width → P (refuse TokensShort))
      → (ns < length l.strings → P (refuse StringsShort)) → (nr < length l.reports * report_width → P (refuse ReportsShort))
      → (Room l nt ns nr → P a) → P (after_room l nt ns nr refuse a)
  room_case l nt ns nr tokens strings reports accepted =
      room_checks (λ (r : Result (Unit {0}) Refusal). P (after_judge r refuse a)) (counts_of l) nt ns nr tokens strings reports
      (λ t s r. accepted (record { for_tokens = t; for_strings = s; for_reports = r }))
