-- For the calls of crate `pxf`: the value of an accepted answer lies within the buffer. By cases on the answer. Assumes nothing.
use mathlib.Core.Path.{◌≡◌}
use mathlib.Core.List.{List}
use Prim.Native.Nat.{ℕ, ◌*◌, ◌≤◌}
use native.Mathlib.Omega.{arith}
use Rattle.std.specs.Prelude.{Result, Ok, Err}
use lib.IntN.{ℤ}
use Rattle.token.specs.Layout.{record_width}
use Rattle.token_file.specs.Calls.{write_answer, read_answer, written_value, loaded_value}
use Rattle.token_file.specs.declared.write.WriteRefusal.{WriteRefusal}
use Rattle.token_file.specs.declared.read.ReadRefusal.{ReadRefusal}
use Rattle.token_file.proofs.RoundCalls.{write_accepted, read_accepted}

-- no more bytes are written than the buffer has
pub written_inside : (records : List ℤ) (count room : ℕ) (r : Result ℕ WriteRefusal) → r ≡ write_answer records count room → written_value r ≤ room
written_inside records count room (Ok n) e = (write_accepted records count room n e).inside
written_inside records count room (Err r) e = omega arith

-- nor more tokens read than the slice has room for
pub loaded_inside : (file : List ℕ) (room : ℕ) (r : Result ℕ ReadRefusal) → r ≡ read_answer file room → loaded_value r * record_width ≤ room
loaded_inside file room (Ok n) e = (read_accepted file room n e).inside
loaded_inside file room (Err r) e = omega arith
