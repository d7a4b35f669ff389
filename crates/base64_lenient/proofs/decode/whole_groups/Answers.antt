-- `whole_groups` stores the bytes of a group in each turn, and what is left, stored from there on, makes the whole. Assumes nothing.
use mathlib.Core.Path.{◌≡◌, ap, ◌∙◌}
use mathlib.Core.List.{[], ◌∷◌}
use Prim.Native.Nat.{◌+◌, ◌*◌, ◌≤◌}
use native.Mathlib.Omega.{arith}
use lib.ListN.{length, length-drop, get_or}
use Rattle.base.specs.Bytes.{byte}
use Rattle.base.proofs.Reaches.{rest_is}
use Rattle.base64_lenient.proofs.Groups.{Together, rest_chunk, chunk_is, all_small, together_room, together_stored}
use Rattle.base64_lenient.proofs.decode.whole_groups.Goals.{Else-not-a-b}
use Rattle.base64_lenient.proofs.decode.whole_groups.Goals as goal

-- the four characters of a turn
together : (c : Else-not-a-b) → Together c.args.run.now (c.args.at + c.loop-n.n * 4) c.value_of-a.result c.value_of-b.result c.value_of-c.result
    c.value_of-d.result
together c =
    let s = c.args.run.now in
    let at = c.args.at in
    let n = c.loop-n.n in
    let i = at + n * 4 in
    let room : i + 4 ≤ length s = omega (arith, c.loop-n-test.true, c.as_chunks.ensures.front_len, ap length (rest_is s at), length-drop at s, c.requires.0) in
    let group : get_or c.as_chunks.result.0.now n [] ≡ byte s i ∷ byte s (i + 1) ∷ byte s (i + 2) ∷ byte s (i + 3) ∷ [] =
    rw c.as_chunks.ensures.front (rest_chunk 4 _ at n s (omega (arith, c.loop-n-test.true, c.as_chunks.ensures.front_len))) ∙ chunk_is s i room in
    record {
      inside = room;
      first = rw group at c.value_of-a.ensures;
      second = rw group at c.value_of-b.ensures;
      third = rw group at c.value_of-c.ensures;
      fourth = rw group at c.value_of-d.ensures;
      small = all_small _ _ _ _ c.if-not-a-b.false;
    }

pub put_three-requires : goal.put_three-requires
put_three-requires c =
    let at = goal.at.put_three-requires c in
    let k = together at.Else-not-a-b in
    (together_room _ _ c.loop-n.invariant k, k.small.0, k.small.1, k.small.2, k.small.3)

pub loop-n-preserved : goal.loop-n-preserved
loop-n-preserved c =
    let at = goal.at.loop-n-preserved c in
    let k = together at.Else-not-a-b in
    let e : c.args.at + (c.loop-n.n + 1) * 4 ≡ c.args.at + c.loop-n.n * 4 + 4 = omega arith in
    let f : c.args.to + (c.loop-n.n + 1) * 3 ≡ c.args.to + c.loop-n.n * 3 + 3 = omega arith in
    rw (e, f) (together_stored _ _ c.loop-n.invariant k _ c.put_three.ensures)
