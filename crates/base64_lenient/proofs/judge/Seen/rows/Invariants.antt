-- `rows` meets its contract: what was seen and what is left of the run make the whole, row by row. Assumes nothing.
use Prim.Native.Nat.{◌+◌, ◌*◌}
use Rattle.base64_lenient.specs.Helpers.{characters_seen, SeenTo}
use Rattle.base64_lenient.proofs.judge.Seen.rows.Given as goal

abbrev pub invariant-loop-n : goal.invariant-loop-n
invariant-loop-n l = SeenTo l.run (characters_seen l.left (l.self.characters + l.n * 32)) (l.at + l.n * 32)
