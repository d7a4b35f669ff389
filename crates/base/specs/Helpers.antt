-- Helper definitions, for proofs and inner contracts alone: numbers that stand for none.
use Rattle.std.specs.Prelude.{ℕ, eqb, Option, Some, None}
use Rattle.base.specs.Choice.{pick}

-- a number that is none where it is 0
abbrev pub nonzero : ℕ → Option ℕ
nonzero n = pick (eqb n 0) None (Some n)
