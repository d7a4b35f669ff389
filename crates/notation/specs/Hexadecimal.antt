-- Helper definitions, for proofs and inner contracts alone: bytes that hexadecimal digits write.
use Rattle.std.specs.Prelude.{ℕ, ◌+◌, ◌-◌, ◌*◌, ◌%◌, ◌&&◌, leb, Option, Some, None, unwrap_or}
use Prim.Native.Char.{code}
use Rattle.base.specs.Choice.{pick}

-- the value of a digit, in lower case
abbrev pub digit : ℕ → Option ℕ
digit b = pick (leb (code "0") b && leb b (code "9")) (Some (b - code "0")) (pick (leb (code "a") b && leb b (code "f")) (Some (b - code "a" + 10)) None)

-- the byte that two digits write; what is none counts as 16
abbrev pub hex_byte : ℕ → ℕ → ℕ
hex_byte high low = (unwrap_or (digit high) 16 * 16 + unwrap_or (digit low) 16) % 256
