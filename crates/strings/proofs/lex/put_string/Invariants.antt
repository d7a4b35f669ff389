-- `put_string` stores what is left after what is stored already: all of it where it is text, else a run of bytes that stand for themselves,
-- then the closing quote, escapes of one letter, or a step. What is stored so far is named stage by stage. Assumes nothing.
use Prim.Native.Nat.{◌-◌}
use lib.ListN.{length}
use Rattle.strings.proofs.Writings.{Writing}
use Rattle.strings.proofs.lex.put_string.Given as goal

abbrev pub invariant-loop-i : goal.invariant-loop-i
invariant-loop-i l = Writing l.mode l.s l.len l.initial.out l.place l.until l.out l.i l.p

abbrev pub decreases-loop-i : goal.decreases-loop-i
decreases-loop-i l = length l.s - l.i
