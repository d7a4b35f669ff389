-- `try_offsets` meets its contract: the offsets before this one were tried, and the copy of the run is as it was. Assumes nothing.
use mathlib.Core.Path.{◌≡◌}
use mathlib.Core.List.{List}
use Prim.Native.Nat.{ℕ, ◌≤◌}
use lib.ListN.{length, take}
use lib.Seq.{sets, take-append_seam}
use Rattle.base.proofs.Stores.{overlaid}
use Rattle.suggest.proofs.Fills.{same_self, same_then}
use Rattle.suggest.proofs.Turns.{walking_first, walking_next, walking_last}
use Rattle.suggest.proofs.candidates.try_offsets.Goals as goal

-- a list stored at the front of another one is its front
front : (l run : List ℕ) → length run ≤ length l → take (length run) (sets l 0 run) ≡ run
front l run h = rw (overlaid run l h) (take-append_seam run _)

pub loop-i-init : goal.loop-i-init
loop-i-init c =
    let run = c.args.run.bytes.now in
    let copied : take (length run) c.copy.new.buf ≡ run = rw c.copy.ensures (front _ run c.requires.0) in
    (same_self _, rw (copied, c.requires.1) walking_first)

pub loop-i-preserved : goal.loop-i-preserved
loop-i-preserved c =
    let e = c.try_offset.ensures in
    (same_then c.loop-i.invariant.0 e.same_list, walking_next c.loop-i.invariant.1 c.loop-i-test.true e.tried e.same_run)

pub returns-clause-tried : goal.returns-clause-tried
returns-clause-tried c = walking_last c.loop-i.invariant.1 c.loop-i-test.false
