-- For `unsigned_run` and Durations: a run of written parts sums up to its total or is refused above 2^63, and a list that has a sum is a run of parts, in
-- one way only. By induction on the parts, and on the length of the list. Assumes nothing.
use Rattle.std.proofs.Common.{◌≡◌, ℕ, zero, suc, ◌+◌, ◌<◌, ◌≤◌, false, Option, Some, None, ltb, List, [], ◌∷◌, ◌++◌, length, sym, refl, ap, ◌∙◌, ap₂, suc-le-suc, zero-le, le_refl, not-suc-le-zero, add-zero, add_assoc, arith, length-append, ltb-false, ltb-true, le-ltb, lt-ltb}
use Rattle.std.proofs.lemmas.Option.{none-some}
use lib.Seq.{drop-append_seam}
use Rattle.base.specs.Choice.{pick}
use Rattle.go_duration.specs.Fraction.{most}
use Rattle.go_duration.specs.Parse.{part_of, sum_from}
use Rattle.go_duration.specs.Written.{WrittenPart, part_bytes, IsPart, Parts, none, more, part_nanos, total_of}
use Rattle.go_duration.specs.declared.part.Part.{Part}
use Rattle.base.proofs.Tests.{by_cases, pick_second}
use Rattle.base.proofs.Fronts.{begins}
use Rattle.go_duration.proofs.SumSteps.{front_bad, front_step}
use Rattle.go_duration.proofs.WrittenParts.{unit_byte, Cut, part_is, part_good}
use Rattle.go_duration.proofs.WrittenCuts.{cut_is, part_size, part_begins, find, same_cut}

-- ---- the form gives the sum
pub parts_begin : {ps : List WrittenPart} {s : List ℕ} → Parts ps s → begins unit_byte s ≡ false
parts_begin none = refl
parts_begin (more {p = p} {s = s} i q) = part_begins p s i

module _ (p : WrittenPart) (s : List ℕ) where
  some_bytes : IsPart p → 0 < length (part_bytes p ++ s)
  some_bytes i = omega (arith, part_size p i, length-append (part_bytes p) s)

  -- the part's nanoseconds are added, if neither they nor the sum exceed 2^63
  part_sum : (d : ℕ) → IsPart p → begins unit_byte s ≡ false
      → sum_from 0 d (part_bytes p ++ s) ≡ pick (ltb most (d + part_nanos p)) None (sum_from 0 (d + part_nanos p) s)
  part_sum d i b =
      let e = part_is p s (cut_is p s i b) i.some_digit i.known in
      by_cases (ltb most (part_nanos p)) (λ q. let l = ltb-true most (part_nanos p) q in
      rw (lt-ltb most (d + part_nanos p) (omega arith)) (front_bad d (part_bytes p ++ s) (some_bytes i) (rw q at e)))
      (λ q. rw drop-append_seam at
      (front_step d (part_nanos p) (length (part_bytes p)) (part_bytes p ++ s) (some_bytes i) (omega (arith, part_size p i)) (rw q at e)))

-- a sum of parts, if it is at most 2^63
abbrev pub bounded : ℕ → Option ℕ
bounded n = pick (ltb most n) None (Some n)

pub sum_is : {ps : List WrittenPart} {s : List ℕ} → Parts ps s → (d : ℕ) → d ≤ most → sum_from 0 d s ≡ bounded (d + total_of ps)
unfolding sum_from
sum_is none d h = rw (add-zero, le-ltb most d h)
sum_is (more {p = p} {ps = ps} {s = s} i q) d h =
    by_cases (ltb most (d + part_nanos p)) (λ e. let l = ltb-true most (d + part_nanos p) e in
    rw (part_sum p s d i (parts_begin q), e, lt-ltb most (d + (part_nanos p + total_of ps)) (omega arith)))
    (λ e. rw (part_sum p s d i (parts_begin q), e, ← add_assoc d (part_nanos p) (total_of ps))
    (sum_is q (d + part_nanos p) (ltb-false most (d + part_nanos p) e)))

-- ---- a sum gives the form
pub record Run (s : List ℕ) (d e : ℕ) : Type 0 where
  pub written : List WrittenPart
  pub parts : Parts written s
  pub sum : e ≡ d + total_of written

-- a list that has a sum begins with a part, and the rest has the sum after it
module _ (p : WrittenPart) (s : List ℕ) (c : Cut p s) (d e : ℕ) (h : 0 < length (part_bytes p ++ s))
    (q : sum_from 0 d (part_bytes p ++ s) ≡ Some e) where
  first_part : IsPart p
  first_part = go (part_of (part_bytes p ++ s)) refl
    where
      go : (r : Option Part) → part_of (part_bytes p ++ s) ≡ r → IsPart p
      go None a = absurd (none-some e (sym (front_bad d (part_bytes p ++ s) h a) ∙ q))
      go (Some v) a =
          let g = part_good p s c v a in
          record {
            whole_digits = c.whole_digits;
            fraction_digits = c.fraction_digits;
            no_point = c.no_point;
            some_digit = g.0;
            unit_bytes = c.unit_bytes;
            known = g.1;
          }

  then_rest : sum_from 0 (d + part_nanos p) s ≡ Some e
  then_rest = (pick_second (ltb most (d + part_nanos p)) (none-some e) (sym (part_sum p s d first_part c.unit_ends) ∙ q)).1

no_parts : (d e : ℕ) → Some d ≡ Some e → Run [] d e
no_parts d e q = record { written = []; parts = none; sum = let z : d ≡ e = cc in omega arith }

one_more : (p : WrittenPart) (s l : List ℕ) (d e : ℕ) → l ≡ part_bytes p ++ s → IsPart p → Run s (d + part_nanos p) e → Run l d e
one_more p s l d e q i r = record { written = p ∷ r.written; parts = rw q (more i r.parts); sum = omega (arith, r.sum) }

-- n bounds the length
step : (n e : ℕ) → ((s : List ℕ) (d : ℕ) → length s ≤ n → sum_from 0 d s ≡ Some e → Run s d e)
    → (l : List ℕ) (d : ℕ) → 0 < length l → length l ≤ suc n → sum_from 0 d l ≡ Some e → Run l d e
step n e shorter l d h m q =
    let f = find l in
    let k = rw f.bytes at h in
    let a = rw f.bytes at q in
    let i = first_part f.part f.rest f.cut d e k a in
    one_more f.part f.rest l d e f.bytes i
    (shorter f.rest (d + part_nanos f.part)
    (omega (arith, part_size f.part i, length-append (part_bytes f.part) f.rest, ap length f.bytes))
    (then_rest f.part f.rest f.cut d e k a))

parts_of : (n e : ℕ) (l : List ℕ) (d : ℕ) → length l ≤ n → sum_from 0 d l ≡ Some e → Run l d e
unfolding sum_from
parts_of zero e [] d h q = no_parts d e q
parts_of zero e (x ∷ l) d h q = absurd (not-suc-le-zero h)
parts_of (suc n) e [] d h q = no_parts d e q
parts_of (suc n) e (x ∷ l) d h q = step n e (parts_of n e) (x ∷ l) d (suc-le-suc zero-le) h q

pub sum_parts : (s : List ℕ) (d e : ℕ) → sum_from 0 d s ≡ Some e → Run s d e
sum_parts s d e q = parts_of (length s) e s d (le_refl (length s)) q

-- so it is at most 2^63
pub sum_fits : (s : List ℕ) (e : ℕ) → Some e ≡ sum_from 0 0 s → e ≤ most
sum_fits s e q =
    let r = sum_parts s 0 e (sym q) in
    let f = pick_second (ltb most (0 + total_of r.written)) (none-some e) (sym (sum_is r.parts 0 zero-le) ∙ sym q) in
    omega (arith, r.sum, ltb-false most (0 + total_of r.written) f.0)

-- ---- a run of parts is one in one way only
same_run : {ps qs : List WrittenPart} {s r : List ℕ} → Parts ps s → Parts qs r → s ≡ r → ps ≡ qs
same_run none none e = refl
same_run none (more {p = q} {s = r} j y) e = absurd (omega (arith, some_bytes q r j, ap length e))
same_run (more {p = p} {s = s} i x) none e = absurd (omega (arith, some_bytes p s i, ap length e))
same_run (more {p = p} {s = s} i x) (more {p = q} {s = r} j y) e =
    let c = same_cut p q s r (cut_is p s i (parts_begin x)) (cut_is q r j (parts_begin y)) e in
    ap₂ ◌∷◌ c.0 (same_run x y c.1)

pub same_parts : {ps qs : List WrittenPart} {s : List ℕ} → Parts ps s → Parts qs s → ps ≡ qs
same_parts x y = same_run x y refl
