-- Helper definitions, for proofs and inner contracts alone: which bytes stand as they are in the list.
use Rattle.std.specs.Prelude.{Bool, not, ◌&&◌, ℕ, leb, eqb}
use Prim.Native.Char.{code}

-- printable ASCII but for the blank and the backslash
abbrev pub is_plain : ℕ → Bool
is_plain b = (leb (code "!") b && leb b (code "~")) && not (eqb b (code "\\"))
