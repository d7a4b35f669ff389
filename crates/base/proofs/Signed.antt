-- For the crates that store numbers as i64 (token, notation, listing_lines, pxf): below 2^63 the value stays. By the library's law. Assumes nothing.
use mathlib.Core.Path.{◌≡◌}
use Prim.Native.Nat.{ℕ, ◌<◌}
use native.Mathlib.Omega.{arith}
use lib.IntN.{pos}
use mir.Syntax.{w64}
use mir.Val.{to_z, SFits}
use mir.ValLaws.{to_z_pos}

-- a number below 2^63 is itself as an i64
pub signed : (n : ℕ) → n < 0x8000000000000000 → to_z w64 n ≡ pos n
signed n h = to_z_pos w64 n (omega arith)

pub signed_fits : (n : ℕ) → n < 0x8000000000000000 → SFits w64 (pos n)
signed_fits n h = record { sfits = omega arith }
