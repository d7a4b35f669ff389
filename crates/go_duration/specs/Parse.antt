-- `parse` of go_duration.rs on a list of bytes, with document 01's refusals: "number at most 2^63, unit, repeated".
use Rattle.std.specs.Prelude.{ℕ, zero, suc, ◌+◌, ◌-◌, ◌*◌, Bool, not, ◌&&◌, ◌||◌, Option, Some, None, List, [], ◌∷◌, length, take, drop, ℤ, pos, ◌-ℤ◌, ◌==◌, nat_lt}
use Prim.Native.Char.{code}
use Rattle.base.specs.Characters.{ascii}
use Rattle.base.specs.Choice.{pick}
use Rattle.base.specs.Bytes.{byte, same_bytes}
use Rattle.base.specs.Classes.{is_digit}
use Rattle.base.specs.Runs.{reach}
use Rattle.base.specs.Digits.{in_digits, value_of}
use Rattle.go_duration.specs.Fraction.{most, fraction_nanos}
use Rattle.go_duration.specs.Units.{unit_of}
use Rattle.go_duration.specs.declared.part.Part.{Part}

-- `Part`, a type of the code (src/part.rt): one part, its nanoseconds, `nanos`, and how many bytes it has, `used`.

-- ---- one part, at the front of a list

-- "a unit, which runs to the next digit or point or to the end"
abbrev pub in_unit : ℕ → ℕ → Bool
in_unit a b = not (is_digit a || a == (code "."))

-- the end of the digits of the whole number
unfoldable pub whole_end : List ℕ → ℕ
whole_end s = reach in_digits s 0

-- whether a point stands there
unfoldable pub has_point : List ℕ → Bool
has_point s = byte s (whole_end s) == (code ".")

-- the start of the fraction's digits
unfoldable pub fraction_start : List ℕ → ℕ
fraction_start s = pick (has_point s) (whole_end s + 1) (whole_end s)

-- the end of the fraction's digits; without a point there are none
unfoldable pub fraction_end : List ℕ → ℕ
fraction_end s = pick (has_point s) (reach in_digits s (whole_end s + 1)) (whole_end s)

-- the end of the unit
unfoldable pub unit_end : List ℕ → ℕ
unit_end s = reach in_unit s (fraction_end s)

-- `leading_int`: the whole number
unfoldable pub whole_of : List ℕ → ℕ
whole_of s = value_of (take (whole_end s) s)

-- the unit's nanoseconds, or 0 where it is unknown or missing
unfoldable pub part_unit : List ℕ → ℕ
part_unit s = unit_of (take (unit_end s - fraction_end s) (drop (fraction_end s) s))

-- the nanoseconds of the fraction
unfoldable pub part_fraction : List ℕ → ℕ
part_fraction s = pick (has_point s) (fraction_nanos (drop (whole_end s + 1) s) (part_unit s)) 0

-- neither side of the point has a digit
unfoldable pub digitless : List ℕ → Bool
digitless s = whole_end s == 0 && fraction_end s == fraction_start s

-- the part's nanoseconds and its length; "Any product or sum above 2^63 is refused"
unfoldable pub part_of : List ℕ → Option Part
part_of s =
    pick (digitless s) None
    (pick (nat_lt most (whole_of s)) None
    (pick (part_unit s == 0) None
    (pick (nat_lt most (whole_of s * part_unit s)) None
    (pick (nat_lt most (whole_of s * part_unit s + part_fraction s)) None
    (Some (record { nanos = whole_of s * part_unit s + part_fraction s; used = unit_end s }))))))

-- ---- the parts, repeated

-- the sum d with one part more, and then what f makes of the bytes of the part that are left: "Any product or sum above 2^63 is refused"
abbrev pub add_part : Option Part → ℕ → (ℕ → ℕ → Option ℕ) → Option ℕ
add_part None d f = None
add_part (Some p) d f = pick (nat_lt most (d + p.nanos)) None (f (p.used - 1) (d + p.nanos))

-- the sum of the parts, d being that of those before; k bytes at the front belong to a part that is counted already
unfoldable pub sum_from : ℕ → ℕ → List ℕ → Option ℕ
sum_from k d [] = Some d
sum_from (suc k) d (x ∷ s) = sum_from k d s
sum_from zero d (x ∷ s) = add_part (part_of (x ∷ s)) d (λ k e. sum_from k e s)

-- ---- the whole run

-- "The sign is put on the finished sum": 2^63 is allowed only under `-`
abbrev pub sign_of : Bool → ℕ → ℤ
sign_of neg d = pick neg (pos 0 -ℤ pos d) (pos d)

-- the finished sum under its sign, where a signed 64-bit number holds it
unfoldable pub with_sign : Bool → Option ℕ → Option ℤ
with_sign neg None = None
with_sign neg (Some d) = pick (neg || nat_lt d most) (Some (sign_of neg d)) None

-- the run after its sign
unfoldable pub unsigned : List ℕ → List ℕ
unsigned run = pick (byte run 0 == (code "-") || byte run 0 == (code "+")) (drop 1 run) run

-- "`0` alone is zero"; nothing is no duration
unfoldable pub parse_of : List ℕ → Option ℤ
parse_of run =
    pick (same_bytes (unsigned run) (ascii "0")) (Some (pos 0))
    (pick (length (unsigned run) == 0) None (with_sign (byte run 0 == (code "-")) (sum_from 0 0 (unsigned run))))
