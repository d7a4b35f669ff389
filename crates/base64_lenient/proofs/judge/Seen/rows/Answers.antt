-- `rows` meets its contract: what was seen and what is left of the run make the whole, row by row. Assumes nothing.
use mathlib.Core.Path.{◌≡◌, ap, ◌∙◌}
use mathlib.Core.List.{[]}
use Prim.Native.Nat.{◌+◌, ◌-◌, ◌*◌, ◌≤◌}
use native.Mathlib.Omega.{arith}
use lib.ListN.{length, length-drop, get_or, take, drop}
use Rattle.base.proofs.Reaches.{rest_is}
use Rattle.base.proofs.Tests.{told}
use Rattle.base64_lenient.proofs.Groups.{rest_chunk}
use Rattle.base64_lenient.proofs.Sights.{seen_row}
use Rattle.base64_lenient.proofs.judge.Seen.rows.Goals as goal

pub loop-n-preserved : goal.loop-n-preserved
loop-n-preserved c =
    let l = c.loop-n in
    let at = c.args.at in
    let s = c.args.run.now in
    let n = c.args.self.characters in
    let k = l.n * 32 in
    let room : at + k + 32 ≤ length s =
    omega (arith, c.loop-n-test.true, c.as_chunks.ensures.front_len, ap length (rest_is s at), length-drop at s, c.requires.inside) in
    let w : at + k + 32 - (at + k) ≡ 32 = omega arith in
    let row : get_or c.as_chunks.result.0.now l.n [] ≡ take (at + k + 32 - (at + k)) (drop (at + k) s) =
    rw (c.as_chunks.ensures.front, w) (rest_chunk 32 _ at l.n s (omega (arith, c.loop-n-test.true, c.as_chunks.ensures.front_len))) in
    let o : n + k + (at + k + 32 - (at + k)) ≡ n + (l.n + 1) * 32 = omega arith in
    let e : at + (l.n + 1) * 32 ≡ at + k + 32 = omega arith in
    rw (c.shared-next.ensures, e)
    (rw o at (seen_row s _ _ (at + k) (at + k + 32) l.invariant (omega arith) room _ (c.with_all.ensures ∙ rw row)
    (rw c.shared-next.ensures at (told _ c.some.ensures c.if-not-some.false))))
