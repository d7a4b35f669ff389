-- `all` is `seen_all`: what was seen and the bytes left make the whole. Assumes nothing.
use Rattle.base64_lenient.proofs.Sights.{going_turn}
use Rattle.base64_lenient.proofs.judge.Seen.all.Goals as goal

pub loop-b-preserved : goal.loop-b-preserved
loop-b-preserved c = going_turn _ _ _ _ c.loop-b.invariant c.loop-b-test.true _ c.one-seen.ensures
