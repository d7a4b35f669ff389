-- `put_little` leaves the stores of the number's bytes: what is left to store, stored from here on, makes the whole. Assumes nothing.
use mathlib.Core.Path.{sym, ◌∙◌}
use native.Mathlib.Omega.{arith}
use native.Mathlib.Nat.{add_assoc}
use Rattle.token_file.proofs.Numbers.{put_turn, put_end}
use Rattle.token_file.proofs.number.put_little.Goals as goal

pub loop-k-preserved : goal.loop-k-preserved
loop-k-preserved c = rw (← add_assoc) (put_turn _ _ _ _ (omega (arith, c.loop-k-test.true)) ∙ c.loop-k.invariant)

pub returns : goal.returns
returns c = sym (put_end _ _ _ _ (omega (arith, c.loop-k-test.false))) ∙ c.loop-k.invariant
