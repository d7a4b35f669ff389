-- For PieceFronts and SeenForms: the lexer's pieces go over each part that it takes, from end to end, and stop at a blank. By the table of units, and by
-- induction on digits and on parts. Assumes nothing.
use mathlib.Core.Path.{◌≡◌, refl}
use mathlib.Core.Bool.{Bool, true, false, ◌||◌}
use mathlib.Core.List.{List, [], ◌∷◌, ◌++◌, append_assoc}
use Prim.Native.Nat.{ℕ, ◌+◌, ◌<◌}
use native.Mathlib.Nat.{not-suc-le-zero}
use native.Mathlib.Omega.{arith}
use borrow.Author.Tests.{ne_eqb}
use lib.Dec.{eqb}
use lib.ListN.{length, length-append}
use Rattle.base.specs.Choice.{pick}
use Rattle.base.specs.Bytes.{byte, each, same_bytes}
use Rattle.base.specs.Classes.{is_digit, is_lower_alpha, is_duration_unit, is_space}
use Rattle.base.specs.Runs.{walk}
use Rattle.base.proofs.Tests.{and_left, and_right, by_cases, true_false, under}
use Rattle.base.proofs.Words.{same_eq}
use Rattle.go_duration.specs.Units.{units, unit_in, unit_of}
use Rattle.go_duration.specs.Written.{WrittenPart, part_bytes, IsPart}
use Rattle.scan.specs.Run.{unit_piece}
use Rattle.scan.specs.Number.{at_duration_unit}
use Rattle.suggest.proofs.PartCuts.{Lexable, Pieces, no_piece, piece, space_range}

-- the pieces go over a
abbrev pub Walks : List ℕ → Type 0
Walks a = (r : List ℕ) → walk unit_piece 0 (a ++ r) ≡ length a + walk unit_piece 0 r

-- ---- units

-- what holds of each unit of a table holds of a known unit
data Rows (P : List ℕ → Type 0) : List (List ℕ × ℕ) → Type 0 where
  end : Rows P []
  row : {r : List ℕ × ℕ} {rs : List (List ℕ × ℕ)} → P r.0 → Rows P rs → Rows P (r ∷ rs)

unit_in_lem : (P : List ℕ → Type 0) {rs : List (List ℕ × ℕ)} → Rows P rs → (u : List ℕ) → 0 < unit_in rs u → P u
unit_in_lem P end u h = absurd (not-suc-le-zero h)
unit_in_lem P (row {r = r} {rs = rs} p q) u h = by_cases (same_bytes u r.0) (λ e. rw (same_eq u r.0 e) p) (λ e. unit_in_lem P q u (rw e at h))

-- a byte that begins no unit
abbrev pub no_unit : ℕ → Bool
no_unit b = (is_digit b || eqb b 46) || eqb b 45

abbrev Plain : List ℕ → Type 0
Plain u = (r : List ℕ) → no_unit (byte (u ++ r) 0) ≡ false

-- a known unit begins with no digit, no point and no `-`
pub unit_plain : (u : List ℕ) → 0 < unit_of u → Plain u
unfolding units unit_of is_digit
unit_plain u h =
    unit_in_lem Plain
    (row (λ r. refl) (row (λ r. refl) (row (λ r. refl) (row (λ r. refl) (row (λ r. refl) (row (λ r. refl) (row (λ r. refl) (row (λ r. refl) end)))))))) u h

-- a unit that the lexer takes
pub record Unit (u : List ℕ) : Type 0 where
  pub at : (r : List ℕ) → at_duration_unit (byte (u ++ r) 0) (byte (u ++ r) 1) ≡ true
  pub walks : Walks u

abbrev Taken : List ℕ → Type 0
Taken u = eqb (byte u 0) 0xCE ≡ false → Unit u

pub unit_taken : (u : List ℕ) → 0 < unit_of u → Taken u
unfolding units unit_of is_digit is_lower_alpha is_duration_unit at_duration_unit walk unit_piece
unit_taken u h =
    unit_in_lem Taken
    (row (λ e. record { at = λ r. refl; walks = λ r. omega arith })
    (row (λ e. record { at = λ r. refl; walks = λ r. omega arith })
    (row (λ e. record { at = λ r. refl; walks = λ r. omega arith })
    (row (λ e. true_false true refl e)
    (row (λ e. record { at = λ r. refl; walks = λ r. omega arith })
    (row (λ e. record { at = λ r. refl; walks = λ r. omega arith })
    (row (λ e. record { at = λ r. refl; walks = λ r. omega arith })
    (row (λ e. record { at = λ r. refl; walks = λ r. omega arith }) end)))))))) u h

-- ---- parts

walks_append : (a b : List ℕ) → Walks a → Walks b → Walks (a ++ b)
walks_append a b f g r = rw append_assoc (omega (arith, f (b ++ r), g r, length-append a b))

walk_digits : (s : List ℕ) → each is_digit s ≡ true → Walks s
unfolding walk unit_piece
walk_digits [] e r = omega arith
walk_digits (a ∷ s) e r = rw (and_left (is_digit a) (each is_digit s) e) (omega (arith, walk_digits s (and_right (is_digit a) (each is_digit s) e) r))

walk_point : (s : List ℕ) → each is_digit s ≡ true → 0 < length s → Walks (46 ∷ s)
unfolding walk unit_piece is_digit is_lower_alpha
walk_point [] e h r = absurd (not-suc-le-zero h)
walk_point (a ∷ s) e h r = rw (and_left (is_digit a) (each is_digit s) e) (omega (arith, walk_digits (a ∷ s) e r))

walk_part : (p : WrittenPart) → IsPart p → Lexable p → Walks (part_bytes p)
walk_part p i l =
    walks_append p.whole (pick p.point (46 ∷ p.fraction) [] ++ p.unit) (walk_digits p.whole i.whole_digits)
    (walks_append (pick p.point (46 ∷ p.fraction) []) p.unit middle (unit_taken p.unit i.known l.unit).walks)
  where
    middle : Walks (pick p.point (46 ∷ p.fraction) [])
    middle =
        by_cases p.point (λ e. rw e (walk_point p.fraction i.fraction_digits (l.fraction e)))
        (λ e. rw e (walk_digits [] refl))

pub walk_pieces : {ps : List WrittenPart} {s : List ℕ} → Pieces ps s → Walks s
walk_pieces no_piece = walk_digits [] refl
walk_pieces (piece {p = p} {s = s} i l q) = walks_append (part_bytes p) s (walk_part p i l) (walk_pieces q)

-- ---- blanks

pub walk_blanks : (s : List ℕ) → each is_space s ≡ true → walk unit_piece 0 s ≡ 0
unfolding walk unit_piece is_digit is_lower_alpha
walk_blanks [] e = refl
walk_blanks (b ∷ s) e =
    let h = space_range b (and_left (is_space b) (each is_space s) e) in
    rw (under 48 57 b (omega arith), under 97 122 b (omega arith), ne_eqb b 46 (omega arith), ne_eqb b 0xC2 (omega arith))
