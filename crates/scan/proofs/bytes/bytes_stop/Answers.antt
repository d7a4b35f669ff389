-- `bytes_stop` meets its contract: its loop begins at the bytes behind `b"`. Assumes nothing.
use mathlib.Core.Path.{◌≡◌, refl}
use lib.ListN.{drop}
use Rattle.scan.proofs.Stops.{behind_is}
use Rattle.scan.proofs.bytes.bytes_stop.Goals as goal

pub loop-n-init : goal.loop-n-init
loop-n-init c =
    let e : c.unwrap_or-body.result.now ≡ drop 2 c.args.s.now = rw c.unwrap_or-body.ensures (behind_is _ _ _ refl c.get.ensures.lookup.0) in
    rw e refl
