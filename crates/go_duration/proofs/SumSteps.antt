-- For `sum` and WrittenRuns: the sum of the parts, one part at a time. The rest from the end of a part on has the same sum, after the sum with that
-- part. By induction on the bytes passed over. Assumes nothing.
use Rattle.std.proofs.Common.{◌≡◌, ℕ, zero, suc, ◌+◌, ◌-◌, ◌<◌, ◌≤◌, true, false, Some, None, eqb, ltb, List, [], ◌∷◌, length, drop, sym, refl, ap, ◌∙◌, not-suc-le-zero, sub-one, pos_of_ne-zero, arith, length-drop, eqb-true, le-ltb, lt-ltb}
use borrow.Author.Tests.{eqb-false}
use Rattle.base.specs.Choice.{pick}
use Rattle.base.proofs.Reaches.{rest_is}
use Rattle.go_duration.specs.Fraction.{most}
use Rattle.go_duration.specs.Parse.{part_of, sum_from}
use Rattle.go_duration.specs.declared.part.Part.{Part}
use Rattle.go_duration.proofs.PartSteps.{Used, part_used}

-- ---- at the front of a list

-- bytes that are passed over
skip : (k d : ℕ) (l : List ℕ) → sum_from k d l ≡ sum_from 0 d (drop k l)
unfolding sum_from
skip zero d l = refl
skip (suc k) d [] = refl
skip (suc k) d (x ∷ l) = skip k d l

pub front_bad : (d : ℕ) (l : List ℕ) → 0 < length l → part_of l ≡ None → sum_from 0 d l ≡ None
unfolding sum_from
front_bad d [] h e = absurd (not-suc-le-zero h)
front_bad d (x ∷ l) h e = rw e

pub front_step : (d v n : ℕ) (l : List ℕ) → 0 < length l → 0 < n → part_of l ≡ Some (record { nanos = v; used = n })
    → sum_from 0 d l ≡ pick (ltb most (d + v)) None (sum_from 0 (d + v) (drop n l))
unfolding sum_from
front_step d v n [] h k e = absurd (not-suc-le-zero h)
front_step d v zero (x ∷ l) h k e = absurd (not-suc-le-zero k)
front_step d v (suc n) (x ∷ l) h k e = rw (e, sub-one) (ap (pick (ltb most (d + v)) None) (skip n (d + v) l))

-- ---- the loop of `sum`: the parts of the rest, after the sum d, have the sum of all
pub record Summing (s : List ℕ) (d : ℕ) (rest : List ℕ) : Type 0 where
  pub fits : d ≤ most
  pub ran : sum_from 0 d rest ≡ sum_from 0 0 s

module _ (s : List ℕ) (d : ℕ) (rest : List ℕ) (g : Summing s d rest) where
  pub summing_end : true ≡ eqb (length rest) 0 → Some d ≡ sum_from 0 0 s
  unfolding sum_from
  summing_end e = sym (none_left rest (eqb-true _ 0 (sym e))) ∙ g.ran
    where
      none_left : (l : List ℕ) → length l ≡ 0 → sum_from 0 d l ≡ Some d
      none_left [] h = refl
      none_left (x ∷ l) h = absurd (omega arith)

  -- at a part
  module _ (e : false ≡ eqb (length rest) 0) where
    h : 0 < length rest
    h = pos_of_ne-zero (eqb-false _ 0 (sym e))

    pub summing_bad : None ≡ part_of rest → None ≡ sum_from 0 0 s
    summing_bad q = sym (front_bad d rest h (sym q)) ∙ g.ran

    module _ (p : Part) (q : Some p ≡ part_of rest) where
      used : Used rest p.used
      used = part_used rest p q

      pub summing_ends : p.used ≤ length rest
      summing_ends = used.ends

      step : pick (ltb most (d + p.nanos)) None (sum_from 0 (d + p.nanos) (drop p.used rest)) ≡ sum_from 0 0 s
      step = sym (front_step d p.nanos p.used rest h used.some (sym q)) ∙ g.ran

      pub summing_above : most - d < p.nanos → None ≡ sum_from 0 0 s
      summing_above l = rw (lt-ltb most (d + p.nanos) (omega arith)) at step

      pub summing_less : length (drop p.used rest) < length rest
      summing_less = omega (arith, h, used.some, length-drop p.used rest)

      pub summing_next : p.nanos ≤ most - d → Summing s (d + p.nanos) (drop p.used rest)
      summing_next l =
          let b = g.fits in
          let k : d + p.nanos ≤ most = omega arith in
          record { fits = k; ran = rw (le-ltb most (d + p.nanos) k) at step }

-- what `sum` needs at each turn and each return
pub ruleset summing = (rest_is, summing_end, summing_bad, summing_ends, summing_above, summing_less, summing_next)
