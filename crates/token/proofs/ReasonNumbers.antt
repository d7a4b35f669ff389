-- For `lexeme`, `lexer` and `reading`: a reason's number is at most the last. By cases on the reason. Assumes nothing.
use Prim.Native.Nat.{◌≤◌}
use native.Mathlib.Omega.{arith}
use Rattle.token.specs.Reason.{reason_number}
use Rattle.token.specs.Helpers.{last_reason}
use Rattle.token.specs.declared.reason.Reason.{Reason}

pub reason_le : (r : Reason) → reason_number r ≤ last_reason
unfolding reason_number
reason_le r = grind arith
