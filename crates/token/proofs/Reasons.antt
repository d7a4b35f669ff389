-- For readers of `reason_ok`, and `token_file`: the test is true exactly where the rule holds in plain logic. By cases on the kind. Assumes nothing.
use mathlib.Core.Path.{◌≡◌}
use mathlib.Core.Bool.{true}
use mathlib.Core.Logic.{◌↔◌, ⊎_elim, inl, inr}
use Prim.Native.Nat.{ℕ}
use lib.Dec.{eqb}
use borrow.Author.Tests.{eqb-true, eqb-false, eq-eqb, ne_eqb}
use Rattle.base.specs.Bytes.{within}
use Rattle.base.proofs.Tests.{pick_case, or_case, inside, within_low, within_high}
use Rattle.token.specs.Kind.{illegal_number}
use Rattle.token.specs.Reason.{none, unexpected_character, bad_duration, bad_timestamp, of_illegal, reason_ok, ReasonRule}

module _ (kind r : ℕ) where
  pub reason_plain : reason_ok kind r ≡ true → ReasonRule kind r
  reason_plain t =
      record {
        illegal = λ e.
            let h : of_illegal r ≡ true = rw (eq-eqb kind illegal_number e) at t in
            or_case (within unexpected_character bad_duration r) (eqb r bad_timestamp) h
            (λ w. inl (within_low unexpected_character bad_duration r w, within_high unexpected_character bad_duration r w))
            (λ w. inr (eqb-true r bad_timestamp w));
        other = λ n. eqb-true r none (rw (ne_eqb kind illegal_number n) at t);
      }

  pub reason_test : ReasonRule kind r → reason_ok kind r ≡ true
  reason_test h =
      pick_case (λ t. t ≡ true) (eqb kind illegal_number)
      (λ e. ⊎_elim (λ i. simp (inside unexpected_character bad_duration r i.0 i.1)) (λ q. rw q)
      (h.illegal (eqb-true kind illegal_number e)))
      (λ e. eq-eqb r none (h.other (eqb-false kind illegal_number e)))

  pub reason_rule : (reason_ok kind r ≡ true) ↔ ReasonRule kind r
  reason_rule = (reason_plain, reason_test)
