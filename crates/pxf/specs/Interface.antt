-- The number of the C interface.
use Rattle.std.specs.Prelude.{ℕ}

-- "one number, 1 before the change requests, that rises by one with each change that callers must follow"
abbrev pub interface_number : ℕ
interface_number = 1
