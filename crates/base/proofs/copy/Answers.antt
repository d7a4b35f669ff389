-- `copy` leaves the stores of all bytes: after each block a longer front of them is stored, and the last part stores the rest, some of it again. Assumes
-- nothing.
use Rattle.std.proofs.Common.{◌≡◌, ◌+◌, ◌-◌, ◌*◌, ◌≤◌, length, take, drop, get_or}
use mathlib.Core.Path.{sym, ◌∙◌}
use mathlib.Core.List.{[]}
use native.Mathlib.Omega.{arith}
use lib.ListN.{length-drop}
use lib.Seq.{take_all}
use Rattle.base.proofs.Chunks.{chunk_at}
use Rattle.base.proofs.Stores.{sets_part}
use Rattle.base.proofs.copy.Goals as goal

pub loop-n-preserved : goal.loop-n-preserved
loop-n-preserved c =
    let l = c.loop-n in
    let a = c.args in
    let k = l.n * 16 in
    let e : (l.n + 1) * 16 ≡ k + 16 = omega arith in
    let h : k ≤ length a.xs.now = omega (arith, c.loop-n-test.true, c.as_chunks.ensures.front_len) in
    let b : get_or c.as_chunks.result.0.now l.n [] ≡ take 16 (drop k a.xs.now) =
    rw c.as_chunks.ensures.front (chunk_at 16 _ l.n a.xs.now (omega (arith, c.loop-n-test.true, c.as_chunks.ensures.front_len))) in
    let p = sets_part a.buf.now a.at a.xs.now k k 16 (omega arith) (omega arith) h in
    rw (e, c.store_block.ensures, l.invariant, b) p

pub returns : goal.returns
returns c =
    let l = c.loop-n in
    let a = c.args in
    let n = length a.xs.now in
    let w = c.in-Some.ensures.cases in
    let g : 16 ≤ n = w.0 in
    let e : n - 16 + 16 ≡ n = omega arith in
    let p = sets_part a.buf.now a.at a.xs.now (n - 16) (l.n * 16) 16 (omega (arith, c.loop-n-test.false, c.as_chunks.ensures.front_len)) (omega (arith, l.auto.n-end, c.as_chunks.ensures.front_len)) (omega arith) in
    let b : c.in-Some.last.now ≡ take 16 (drop (n - 16) a.xs.now) = w.1.same ∙ sym (take_all 16 (drop (n - 16) a.xs.now) (omega (arith, length-drop (n - 16) a.xs.now))) in
    c.store_block-2.ensures ∙ rw (l.invariant, b) (rw (e, take_all n a.xs.now (omega arith)) at p)
