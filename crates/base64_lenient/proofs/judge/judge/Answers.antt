-- `judge` is `judge_of`: what was seen to the end of each part and what is left of the run make the whole, and tell whether it decodes. Assumes nothing.
use Prim.Native.Nat.{◌+◌}
use native.Mathlib.Omega.{arith}
use Rattle.base.proofs.Tests.{told}
use Rattle.base64_lenient.specs.Helpers.{SeenTo}
use Rattle.base64_lenient.proofs.Sights.{seen_further}
use Rattle.base64_lenient.proofs.Verdicts.{dead_is}
use Rattle.base64_lenient.proofs.judge.judge.Goals.{After-all-seen}
use Rattle.base64_lenient.proofs.judge.judge.Goals as goal

-- what was seen to the end of the block
further : (c : After-all-seen) → SeenTo c.args.run.now c.all-seen.result (c.rows-at.result.end + c.min.result)
further c =
    let u = c.rows-at.ensures.0 in
    seen_further _ _ _ u _ (omega arith) (omega (arith, u.inside)) _ c.all-seen.ensures

pub returns-then-not-some : goal.returns-then-not-some
returns-then-not-some c =
    let at = goal.at.returns-then-not-some c in
    dead_is _ _ _ (further at.After-all-seen) (told _ c.some.ensures c.if-not-some.true)

pub loop-i-preserved : goal.loop-i-preserved
loop-i-preserved c =
    let at = goal.at.loop-i-preserved c in
    further at.After-all-seen
