-- `try_offset` meets its contract: the bytes before this one were tried, and the run differs at the offset alone. Assumes nothing.
use Prim.Native.Nat.{◌+◌, ◌<◌}
use native.Mathlib.Omega.{arith}
use Rattle.suggest.specs.Suggestions.{first_byte, byte_count}
use Rattle.suggest.proofs.Seams.{cut_set}
use Rattle.suggest.proofs.TriedBytes.{tried_gives, skipped_none}
use Rattle.suggest.proofs.Fills.{same_self, same_then}
use Rattle.suggest.proofs.Turns.{trying_first, trying_none, trying_byte}
use Rattle.suggest.proofs.candidates.try_offset.Goals.{then-b-own, else-b-own}
use Rattle.suggest.proofs.candidates.try_offset.Goals as goal

pub loop-b-init : goal.loop-b-init
loop-b-init c = (same_self _, trying_first)

pub try_byte-requires : goal.try_byte-requires
try_byte-requires c = let p = c.requires in
    let l = c.loop-b in
    let i = l.invariant.1 in
    let w = cut_set l.b c.surroundings-around.ensures in
    (omega (arith, p.0, p.1, p.2, i.few, i.high), rw (i.same l.b) w)

pub loop-b-preserved : goal.loop-b-preserved
loop-b-preserved c =
    let in_range : c.loop-b.b < first_byte + byte_count = omega (arith, c.loop-b-test.true) in
    let l = c.loop-b in
    let t = l.invariant.1 in
    let a = c.args in
    let p = c.requires in
    elim c.if-b-own.branch [
      | then-b-own w ↦
          rw (w.run-is, w.found-is) (
            same_then l.invariant.0 w.try_byte.ensures.same_list,
            trying_byte t in_range w.try_byte.ensures.tried (omega (arith, t.long, p.1))
                (tried_gives a.run.now a.i l.b (rw (← c.can_stand.ensures) w.if-b-own.true)),
          )
      | else-b-own w ↦
          rw (w.run-is, w.found-is) (
            l.invariant.0,
            trying_none t in_range
                (skipped_none a.run.now a.i l.b p.0 (omega (arith, p.1)) t.low in_range (rw (← c.can_stand.ensures) w.if-b-own.false)),
          )
    ]
