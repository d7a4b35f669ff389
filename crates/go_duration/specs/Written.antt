-- A duration as it is written: document 01, "The words of demand 3", with no word of how it is read.
use Rattle.std.specs.Prelude.{◌≡◌, ℕ, ◌+◌, ◌*◌, ◌/◌, ◌^◌, ◌<◌, ◌≤◌, Bool, true, false, not, ◌||◌, List, [], ◌∷◌, ◌++◌, length, ℤ, pos, ◌-ℤ◌, ◌==◌}
use Prim.Native.Char.{code}
use Rattle.base.specs.Choice.{pick}
use Rattle.base.specs.Bytes.{each}
use Rattle.base.specs.Classes.{is_digit}
use Rattle.base.specs.Digits.{value_of}
use Rattle.go_duration.specs.Fraction.{most, fraction_nanos}
use Rattle.go_duration.specs.Units.{unit_of}

-- "digits or none, perhaps a point and digits or none after it, and a unit"
pub record WrittenPart : Type 0 where
  pub whole : List ℕ
  pub point : Bool
  pub fraction : List ℕ
  pub unit : List ℕ

-- the bytes of a part
abbrev pub part_bytes : WrittenPart → List ℕ
part_bytes p = p.whole ++ (pick p.point (code "." ∷ p.fraction) [] ++ p.unit)

-- what a part is: "each with at least one digit"; the unit "runs to the next digit or point or to the end", and is one of the table
pub record IsPart (p : WrittenPart) : Type 0 where
  pub whole_digits : each is_digit p.whole ≡ true
  pub fraction_digits : each is_digit p.fraction ≡ true
  pub no_point : p.point ≡ false → p.fraction ≡ []
  pub some_digit : 0 < length p.whole + length p.fraction
  pub unit_bytes : each (λ b. not (is_digit b || b == (code "."))) p.unit ≡ true
  pub known : 0 < unit_of p.unit

-- the parts, one after the other
pub data Parts : List WrittenPart → List ℕ → Type 0 where
  none : Parts [] []
  more : {p : WrittenPart} {ps : List WrittenPart} {s : List ℕ} → IsPart p → Parts ps s → Parts (p ∷ ps) (part_bytes p ++ s)

-- "`-` or nothing, then the parts"
pub record Duration (neg : Bool) (ps : List WrittenPart) (run : List ℕ) : Type 0 where
  pub rest : List ℕ
  pub parts : Parts ps rest
  pub some : 0 < length ps
  pub bytes : run ≡ pick neg (code "-" ∷ rest) rest

-- two whole numbers that differ by at most one
abbrev pub ByOne : ℕ → ℕ → Type 0
ByOne a b = (a ≤ b + 1) × (b ≤ a + 1)

-- "Its exact value is 0 point all the digits after the point, times the unit; its whole nanoseconds are that rounded down"
unfoldable pub exact_fraction : WrittenPart → ℕ
exact_fraction p = value_of p.fraction * unit_of p.unit / 10 ^ length p.fraction

-- n nanoseconds stand for the part: whole times unit, and "A fraction is written where a digit follows the point": then one more or one less
-- than its whole nanoseconds at most, else nothing
pub record PartNanos (p : WrittenPart) (n : ℕ) : Type 0 where
  pub extra : ℕ
  pub sum : n ≡ value_of p.whole * unit_of p.unit + extra
  pub written : 0 < length p.fraction → ByOne extra (exact_fraction p)
  pub unwritten : length p.fraction ≡ 0 → extra ≡ 0

-- the sum over the parts
pub data Sums : List WrittenPart → ℕ → Type 0 where
  none : Sums [] 0
  more : {p : WrittenPart} {ps : List WrittenPart} {m n : ℕ} → PartNanos p m → Sums ps n → Sums (p ∷ ps) (m + n)

-- z is the sum of the parts as written, within one nanosecond for each written fraction: "The sign is put on the finished sum"
pub record SumOfParts (run : List ℕ) (z : ℤ) : Type 0 where
  pub neg : Bool
  pub parts : List WrittenPart
  pub form : Duration neg parts run
  pub nanos : ℕ
  pub sums : Sums parts nanos
  pub signed : z ≡ pick neg (pos 0 -ℤ pos nanos) (pos nanos)

-- ---- the accepted language

-- the nanoseconds that the floats make of a part
unfoldable pub part_nanos : WrittenPart → ℕ
part_nanos p = value_of p.whole * unit_of p.unit + fraction_nanos p.fraction (unit_of p.unit)

-- their sum
abbrev pub total_of : List WrittenPart → ℕ
total_of [] = 0
total_of (p ∷ ps) = part_nanos p + total_of ps

-- what is accepted: the form, known units, and a sum that a signed 64-bit number holds under its sign
pub record Accepted (neg : Bool) (ps : List WrittenPart) (run : List ℕ) : Type 0 where
  pub form : Duration neg ps run
  pub bound : pick neg (total_of ps) (total_of ps + 1) ≤ most
