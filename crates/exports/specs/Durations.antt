-- A duration's answer as numbers: document 01, "a verdict and value".
use Rattle.std.specs.Prelude.{Option, Some, None, List, ℕ, ℤ, set}

-- 0 where the run is a duration, else 1
abbrev pub verdict_of : Option ℤ → ℕ
verdict_of (Some z) = 0
verdict_of None = 1

-- the value after the call: the nanoseconds, or as it was
abbrev pub value_after : Option ℤ → List ℤ → List ℤ
value_after (Some z) v = set v 0 z
value_after None v = v
