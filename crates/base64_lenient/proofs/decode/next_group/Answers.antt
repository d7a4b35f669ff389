-- `next_group` gathers values up to the loop's place. Assumes nothing.
use mathlib.Core.Path.{◌≡◌}
use Prim.Native.Nat.{◌<◌}
use native.Mathlib.Omega.{arith}
use borrow.Author.Tests.{eqb-true, eqb-false}
use lib.Dec.{eqb}
use lib.ListN.{length}
use Rattle.base.specs.Bytes.{byte}
use Rattle.base.proofs.Tests.{or_case, or_left, or_right}
use Rattle.base64_lenient.specs.Rfc4648.{pad}
use Rattle.base64_lenient.proofs.Groups.{gathered_skip, gathered_more, none_at_end, none_at_pad}
use Rattle.base64_lenient.proofs.decode.next_group.Goals.{then-v-lt-NO_VALUE, else-v-lt-NO_VALUE}
use Rattle.base64_lenient.proofs.decode.next_group.Goals as goal

pub returns-then-count-b : goal.returns-then-count-b
returns-then-count-b c =
    let n = c.loop-i.count in
    let b = byte c.args.run.now c.loop-i.i in
    record {
      gathered = c.loop-i.invariant;
      last = λ h. or_case (eqb n 4) (eqb b pad) c.if-count-b.true (λ e. absurd (omega (arith, h, eqb-true n 4 e)))
          (λ e. none_at_pad _ _ c.loop-i-test.true (eqb-true b pad e));
    }

pub loop-i-preserved : goal.loop-i-preserved
loop-i-preserved c =
    let u = c.loop-i.invariant in
    let n = c.loop-i.count in
    let b = byte c.args.run.now c.loop-i.i in
    let few : n < 4 = omega (arith, u.few, eqb-false n 4 (or_left (eqb n 4) (eqb b pad) c.if-count-b.false)) in
    elim c.if-v-lt-NO_VALUE.branch [
      | then-v-lt-NO_VALUE w ↦
          rw (w.values-is, w.count-is) (gathered_more _ _ c.loop-i-test.true u few _ c.value_of-v.ensures w.if-v-lt-NO_VALUE.true)
      | else-v-lt-NO_VALUE w ↦
          rw (w.values-is, w.count-is)
          (gathered_skip _ _ c.loop-i-test.true u (eqb-false b pad (or_right (eqb n 4) (eqb b pad) c.if-count-b.false)) _ c.value_of-v.ensures
          w.if-v-lt-NO_VALUE.false)
    ]

pub returns : goal.returns
returns c =
    let u = c.loop-i.invariant in
    let s = c.args.run.now in
    let e : c.loop-i.i ≡ length s = omega (arith, u.inside) in
    record { gathered = rw e at u; last = λ h. none_at_end s (length s) (omega arith) }
