-- For `SeenTexts`: every byte of a written duration is one that can stand there or is not printable ASCII, and the whole is UTF-8. By induction on the
-- parts and by one test of the table of units. Assumes nothing.
use mathlib.Core.Path.{◌≡◌, refl}
use mathlib.Core.Bool.{Bool, true, false, not, ◌&&◌, ◌||◌}
use mathlib.Core.List.{List, [], ◌∷◌, ◌++◌}
use Prim.Native.Nat.{ℕ, ◌<◌}
use native.Mathlib.Omega.{arith}
use Prim.Native.Char.{code}
use borrow.Author.Tests.{eqb-true}
use lib.Dec.{eqb}
use lib.ListN.{length}
use Rattle.base.specs.Choice.{pick}
use Rattle.base.specs.Bytes.{within, same_bytes, each}
use Rattle.base.specs.Classes.{is_digit, is_duration_unit}
use Rattle.base.specs.Runs.{walk, past}
use Rattle.base.proofs.Tests.{and_left, and_right, by_cases, digit_range}
use Rattle.base.proofs.Words.{same_eq}
use Rattle.utf8.specs.Grammar as octets
use Rattle.utf8.specs.Grammar.{Octets, utf8_char, char_size, valid_to}
use Rattle.utf8.proofs.Concatenations.{octets_append, ascii_octets}
use Rattle.utf8.proofs.Valid.{valid_octets}
use Rattle.go_duration.specs.Units.{units, unit_in, unit_of}
use Rattle.go_duration.specs.Written as written
use Rattle.go_duration.specs.Written.{WrittenPart, part_bytes, IsPart, Parts, Duration}
use Rattle.suggest.specs.Helpers.{can_stand}

-- a byte that can stand, or one that is not printable ASCII
abbrev pub stands : ℕ → Bool
stands b = can_stand b || not (within 0x20 0x7E b)

-- bytes that can stand, and are UTF-8
pub record Clean (l : List ℕ) : Type 0 where
  pub bytes : each stands l ≡ true
  pub octets : Octets l

-- ---- bytes that pass a test

each_append : (t : ℕ → Bool) (a b : List ℕ) → each t a ≡ true → each t b ≡ true → each t (a ++ b) ≡ true
each_append t [] b e f = f
each_append t (x ∷ a) b e f = rw (and_left (t x) (each t a) e) (each_append t a b (and_right (t x) (each t a) e) f)

pub clean_append : {a b : List ℕ} → Clean a → Clean b → Clean (a ++ b)
clean_append {a} {b} p q = record { bytes = each_append stands a b p.bytes q.bytes; octets = octets_append p.octets q.octets }

pub clean_none : Clean []
clean_none = record { bytes = refl; octets = octets.none }

clean_one : (b : ℕ) → b < 0x80 → can_stand b ≡ true → Clean (b ∷ [])
clean_one b h e = record { bytes = rw e; octets = ascii_octets b h }

clean_digits : (l : List ℕ) → each is_digit l ≡ true → Clean l
unfolding can_stand
clean_digits [] e = clean_none
clean_digits (b ∷ l) e =
    let d = and_left (is_digit b) (each is_digit l) e in
    clean_append (clean_one b (omega (arith, (digit_range b d).1)) (rw d)) (clean_digits l (and_right (is_digit b) (each is_digit l) e))

-- ---- units

-- what a test says of each unit of a table holds of a unit that is in it
abbrev rows : (List ℕ → Bool) → List (List ℕ × ℕ) → Bool
rows t [] = true
rows t (r ∷ rs) = t r.0 && rows t rs

in_table : (t : List ℕ → Bool) (rs : List (List ℕ × ℕ)) (u : List ℕ) → rows t rs ≡ true → 0 < unit_in rs u → t u ≡ true
in_table t [] u w h = absurd (omega arith)
in_table t (r ∷ rs) u w h =
    by_cases (same_bytes u r.0) (λ e. rw (same_eq u r.0 e) (and_left (t r.0) (rows t rs) w))
    (λ e. in_table t rs u (and_right (t r.0) (rows t rs) w) (rw e at h))

clean_unit : (u : List ℕ) → 0 < unit_of u → Clean u
unfolding units unit_of can_stand is_digit is_duration_unit valid_to past walk char_size utf8_char
clean_unit u h =
    let w = in_table (λ v. each stands v && eqb (valid_to v) (length v)) units u refl h in
    record {
      bytes = and_left (each stands u) (eqb (valid_to u) (length u)) w;
      octets = valid_octets u (eqb-true _ _ (and_right (each stands u) (eqb (valid_to u) (length u)) w));
    }

-- ---- parts

clean_point : (b : Bool) (f : List ℕ) → each is_digit f ≡ true → Clean (pick b (code "." ∷ f) [])
unfolding can_stand is_digit is_duration_unit
clean_point true f e = clean_append (clean_one (code ".") (omega arith) refl) (clean_digits f e)
clean_point false f e = clean_none

clean_part : {p : WrittenPart} → IsPart p → Clean (part_bytes p)
clean_part {p} i =
    clean_append (clean_digits p.whole i.whole_digits)
    (clean_append (clean_point p.point p.fraction i.fraction_digits) (clean_unit p.unit i.known))

clean_parts : {ps : List WrittenPart} {s : List ℕ} → Parts ps s → Clean s
clean_parts written.none = clean_none
clean_parts (written.more i w) = clean_append (clean_part i) (clean_parts w)

pub clean_duration : {neg : Bool} {ps : List WrittenPart} {run : List ℕ} → Duration neg ps run → Clean run
unfolding can_stand is_digit is_duration_unit
clean_duration {neg} d = rw d.bytes (go neg)
  where
    go : (n : Bool) → Clean (pick n (code "-" ∷ d.rest) d.rest)
    go true = clean_append (clean_one (code "-") (omega arith) refl) (clean_parts d.parts)
    go false = clean_parts d.parts
