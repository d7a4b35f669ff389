-- For `fraction_end`, `FullTime` and Nanos: where the hour and the fraction of a second end at most. By cases on whether there are two digits, and a
-- fraction. Assumes nothing.
use mathlib.Core.Path.{◌≡◌}
use mathlib.Core.Bool.{true, ◌||◌}
use mathlib.Core.List.{List}
use Prim.Native.Nat.{ℕ, ◌+◌, ◌≤◌, ◌<◌}
use native.Mathlib.Omega.{arith}
use lib.ListN.{length}
use Rattle.base.specs.Classes.{is_digit}
use Rattle.base.specs.Digits.{in_digits}
use Rattle.base.proofs.Tests.{and_right, in_text, no_digit, pick_case, pick_le}
use Rattle.base.proofs.Reaches.{reach_le}
use Rattle.rfc3339.specs.Grammar.{is_at, has_two, hour_end, secfrac_place, has_comma, has_secfrac, secfrac_end}

module _ (s : List ℕ) where
  pub hour_end_le : hour_end s ≤ 13
  unfolding hour_end
  hour_end_le = pick_le (has_two s) (omega arith) (omega arith)

  -- the first digit of a fraction
  pub digit_in : has_secfrac s ≡ true → secfrac_place s + 1 < length s
  unfolding has_secfrac
  digit_in e = in_text is_digit s (secfrac_place s + 1) no_digit (and_right (is_at 46 s (secfrac_place s) || has_comma s) _ e)

  pub fraction_end_le : secfrac_end s ≤ length s + 19
  unfolding secfrac_end
  fraction_end_le =
      pick_case (λ n. n ≤ length s + 19) (has_secfrac s)
      (λ f. omega (arith, reach_le in_digits s (secfrac_place s + 1) (omega (arith, digit_in f)))) (λ f. omega (arith, hour_end_le))
