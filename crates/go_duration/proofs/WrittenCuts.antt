-- For WrittenRuns and Durations: where the pieces of a written part end. A part that a digit, a point or nothing follows is cut so; every list begins with
-- such pieces; and two cuts of one list are the same. By the fronts of base. Assumes nothing.
use Rattle.std.proofs.Common.{◌≡◌, ℕ, ◌+◌, ◌<◌, Bool, true, false, List, [], ◌∷◌, ◌++◌, length, sym, refl, ap, ◌∙◌, append_assoc, suc-le-suc, zero-le, not-suc-le-zero, arith, length-append, eqb-true}
use mathlib.Core.List.{tail}
use Rattle.base.specs.Choice.{pick}
use Rattle.base.specs.Bytes.{each, same_bytes}
use Rattle.base.specs.Classes.{is_digit}
use Rattle.base.proofs.Tests.{and_left, by_cases, true_false, neither}
use Rattle.go_duration.specs.Units.{units, unit_of}
use Rattle.go_duration.specs.Written.{WrittenPart, part_bytes, IsPart}
use Rattle.base.proofs.Fronts.{begins, span, same_front, same_back}
use Rattle.go_duration.proofs.WrittenParts.{is_point, unit_byte, Cut, after, whole_after, after_digits, after_point}

-- ---- the form gives the cut
unit_some : (u : List ℕ) → 0 < unit_of u → 0 < length u
unfolding unit_of units same_bytes
unit_some [] h = h
unit_some (b ∷ u) h = suc-le-suc zero-le

-- where a unit starts, no digit and no point stands
unit_front : (u s : List ℕ) → 0 < length u → each unit_byte u ≡ true → (begins is_digit (u ++ s) ≡ false) × (begins is_point (u ++ s) ≡ false)
unit_front [] s h e = absurd (not-suc-le-zero h)
unit_front (b ∷ u) s h e = neither (is_digit b) (is_point b) (and_left (unit_byte b) (each unit_byte u) e)

pub cut_is : (p : WrittenPart) (s : List ℕ) → IsPart p → begins unit_byte s ≡ false → Cut p s
cut_is p s i e =
    let f = unit_front p.unit s (unit_some p.unit i.known) i.unit_bytes in
    record {
      whole_digits = i.whole_digits;
      fraction_digits = i.fraction_digits;
      no_point = i.no_point;
      unit_bytes = i.unit_bytes;
      digits_end = f.0;
      point_ends = λ q. f.1;
      unit_ends = e;
    }

-- a part has a digit and a unit
pub part_size : (p : WrittenPart) → IsPart p → 1 < length (part_bytes p)
part_size p i =
    let h = unit_some p.unit i.known in
    let k : 0 < length p.whole + length (pick p.point (46 ∷ p.fraction) []) =
    by_cases p.point (λ e. rw e (omega arith)) (λ e. rw e (rw (i.no_point e) at i.some_digit)) in
    omega (arith, length-append p.whole (after p.point p.fraction p.unit), length-append (pick p.point (46 ∷ p.fraction) []) p.unit)

point_no_unit : unit_byte 46 ≡ false
unfolding is_digit
point_no_unit = refl

-- a part begins with a digit or a point
pub part_begins : (p : WrittenPart) (s : List ℕ) → IsPart p → begins unit_byte (part_bytes p ++ s) ≡ false
part_begins p s i = go p.whole p.point p.fraction i.whole_digits i.no_point i.some_digit
  where
    go : (w : List ℕ) (b : Bool) (f : List ℕ) → each is_digit w ≡ true → (b ≡ false → f ≡ []) → 0 < length w + length f
        → begins unit_byte ((w ++ after b f p.unit) ++ s) ≡ false
    go (x ∷ w) b f wd np d = rw (and_left (is_digit x) (each is_digit w) wd)
    go [] true f wd np d = point_no_unit
    go [] false f wd np d = absurd (not-suc-le-zero (rw (np refl) at d))

-- ---- every list is cut so
pub record Found (s : List ℕ) : Type 0 where
  pub part : WrittenPart
  pub rest : List ℕ
  pub cut : Cut part rest
  pub bytes : s ≡ part_bytes part ++ rest

module _ (s w : List ℕ) (wd : each is_digit w ≡ true) where
  find_plain : (ys : List ℕ) → s ≡ w ++ ys → begins is_digit ys ≡ false → begins is_point ys ≡ false → Found s
  find_plain ys e d q =
      let a = span unit_byte ys in
      record {
        part = record { whole = w; point = false; fraction = []; unit = a.front };
        rest = a.back;
        cut = record {
          whole_digits = wd;
          fraction_digits = refl;
          no_point = λ z. refl;
          unit_bytes = a.passes;
          digits_end = rw (← a.bytes) d;
          point_ends = λ z. rw (← a.bytes) q;
          unit_ends = a.stops;
        };
        bytes = e ∙ rw append_assoc (ap (λ (l : List ℕ). w ++ l) a.bytes);
      }

  find_pointed : (ys : List ℕ) → s ≡ w ++ (46 ∷ ys) → Found s
  find_pointed ys e =
      let f = span is_digit ys in
      let a = span unit_byte f.back in
      record {
        part = record { whole = w; point = true; fraction = f.front; unit = a.front };
        rest = a.back;
        cut = record {
          whole_digits = wd;
          fraction_digits = f.passes;
          no_point = λ z. true_false true refl z;
          unit_bytes = a.passes;
          digits_end = rw (← a.bytes) f.stops;
          point_ends = λ z. true_false true refl z;
          unit_ends = a.stops;
        };
        bytes =
            e ∙ rw (append_assoc, append_assoc f.front a.front a.back)
            (ap (λ (l : List ℕ). w ++ (46 ∷ l)) (f.bytes ∙ ap (λ (l : List ℕ). f.front ++ l) a.bytes));
      }

  find_after : (ys : List ℕ) → s ≡ w ++ ys → begins is_digit ys ≡ false → Found s
  find_after [] e d = find_plain [] e d refl
  find_after (b ∷ ys) e d =
      by_cases (is_point b) (λ q. find_pointed ys (rw (eqb-true b 46 q) at e)) (λ q. find_plain (b ∷ ys) e d q)

pub find : (s : List ℕ) → Found s
find s = let a = span is_digit s in find_after s a.front a.passes a.back a.bytes a.stops

-- ---- a list is cut in one way only
same_after : (b : Bool) (f ys g zs : List ℕ) → each is_digit f ≡ true → each is_digit g ≡ true → (b ≡ false → f ≡ []) → (b ≡ false → g ≡ [])
    → begins is_digit ys ≡ false → begins is_digit zs ≡ false → after b f ys ≡ after b g zs → (f ≡ g) × (ys ≡ zs)
same_after true f ys g zs fd gd nf ng dy dz e =
    let t = ap tail e in
    (same_front is_digit f ys g zs fd dy gd dz t, same_back is_digit f ys g zs fd dy gd dz t)
same_after false f ys g zs fd gd nf ng dy dz e = (nf refl ∙ sym (ng refl), e)

module _ (p q : WrittenPart) (s r : List ℕ) (c : Cut p s) (d : Cut q r) (same : part_bytes p ++ s ≡ part_bytes q ++ r) where
  pub same_cut : (p ≡ q) × (s ≡ r)
  same_cut =
      let x = after p.point p.fraction (p.unit ++ s) in
      let y = after q.point q.fraction (q.unit ++ r) in
      let e : p.whole ++ x ≡ q.whole ++ y = sym (whole_after p s) ∙ same ∙ whole_after q r in
      let dx : begins is_digit x ≡ false = after_digits p.point p.fraction (p.unit ++ s) c.digits_end in
      let dy : begins is_digit y ≡ false = after_digits q.point q.fraction (q.unit ++ r) d.digits_end in
      let w : p.whole ≡ q.whole = same_front is_digit p.whole x q.whole y c.whole_digits dx d.whole_digits dy e in
      let a : x ≡ y = same_back is_digit p.whole x q.whole y c.whole_digits dx d.whole_digits dy e in
      let b : p.point ≡ q.point =
      sym (after_point p.point p.fraction (p.unit ++ s) c.point_ends) ∙ ap (begins is_point) a
      ∙ after_point q.point q.fraction (q.unit ++ r) d.point_ends in
      let f = same_after q.point p.fraction (p.unit ++ s) q.fraction (q.unit ++ r) c.fraction_digits d.fraction_digits
      (λ z. c.no_point (b ∙ z)) d.no_point c.digits_end d.digits_end (rw b at a) in
      let u : p.unit ≡ q.unit = same_front unit_byte p.unit s q.unit r c.unit_bytes c.unit_ends d.unit_bytes d.unit_ends f.1 in
      let v : s ≡ r = same_back unit_byte p.unit s q.unit r c.unit_bytes c.unit_ends d.unit_bytes d.unit_ends f.1 in
      (λ i. record { whole = w i; point = b i; fraction = f.0 i; unit = u i }, v)
