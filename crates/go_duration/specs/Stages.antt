-- Helper definitions, for proofs and inner contracts alone: what the stages of `parse` answer, in the terms of Fraction and Parse.
use Rattle.std.specs.Prelude.{ℕ, ◌+◌, ◌*◌, Bool, Option, Some, None, List, length, drop, ℤ, pos, ◌==◌, nat_lt}
use Prim.Native.Char.{code}
use Rattle.base.specs.Characters.{ascii}
use Rattle.base.specs.Choice.{pick}
use Rattle.base.specs.Bytes.{byte, same_bytes}
use Rattle.base.specs.Digits.{in_digits}
use Rattle.base.specs.Runs.{reach}
use Rattle.go_duration.specs.Fraction.{most, Acc, no_digits, read_digits, frac_of}
use Rattle.go_duration.specs.Parse.{whole_end, whole_of, sum_from, with_sign}
use Rattle.go_duration.specs.declared.part.Whole.{Whole}

-- `Whole`, a type of the code (src/part.rt): the number at the front of a part, its `value`, and how many digits it has, `used`.

-- ---- one part

-- `leading_int`: "number at most 2^63"
unfoldable pub leading_int : List ℕ → Option Whole
leading_int s = pick (nat_lt most (whole_of s)) None (Some (record { value = whole_of s; used = whole_end s }))

-- the fraction's digits, if a point stands at n: "perhaps a point and digits or none after it"
unfoldable pub fraction_at : ℕ → List ℕ → Acc
fraction_at n s = pick (byte s n == code ".") (read_digits (drop (n + 1) s) no_digits) no_digits

-- where they end
unfoldable pub fraction_stop : ℕ → List ℕ → ℕ
fraction_stop n s = pick (byte s n == code ".") (reach in_digits s (n + 1)) n

-- the nanoseconds of the number w and the fraction a, for a unit of u nanoseconds: "Any product or sum above 2^63 is refused"
unfoldable pub nanos_part : ℕ → Acc → ℕ → Option ℕ
nanos_part w a u = pick (nat_lt most (w * u)) None (pick (nat_lt most (w * u + frac_of a u)) None (Some (w * u + frac_of a u)))

-- ---- the whole run

-- the run after its sign, under that sign
unfoldable pub parse_unsigned : Bool → List ℕ → Option ℤ
parse_unsigned neg s = pick (same_bytes s (ascii "0")) (Some (pos 0)) (pick (length s == 0) None (with_sign neg (sum_from 0 0 s)))
