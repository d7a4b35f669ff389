-- `place_for` finds the place: the library's search parts the entries, read as arrays. Assumes nothing.
use mathlib.Core.Bool.{Bool, not}
use mathlib.Core.List.{List}
use native.Mathlib.Omega.{arith}
use lib.IntN.{ℤ, pos}
use lib.ListN.{get_or}
use lib.Signed.{lt_z}
use mir.Syntax.{w64}
use mir.Val.{to_z, of_z}
use mir.ValLaws.{to_z-of_z}
use borrow.Author.Rules.{rules}
use Rattle.std.proofs.lemmas.List.Sorted.{IsPartitionPoint-from_clause}
use Rattle.suggestion_list.proofs.Chunks.{at_most_first, parted}
use Rattle.suggestion_list.proofs.place_for.Goals as goal

pub returns : goal.returns
returns c =
    let z = to_z w64 (of_z w64 c.args.nanos) in
    let l = c.args.entries.now in
    let chunks = c.as_chunks.result.0.now in
    let are = c.as_chunks.ensures.front in
    let size = c.as_chunks.ensures.front_len in
    let inside = c.partition_point.ensures.bound in
    let at_most : List ℤ → Bool = λ e. not (lt_z z (get_or e 0 (pos 0))) in
    record {
      inside = omega (arith, size, inside);
      parts = λ o. rw (to_z-of_z w64 _ c.ranges.nanos) at (parted l z chunks are size (omega (arith, size, inside))
          (IsPartitionPoint-from_clause at_most chunks _ c.partition_point.ensures.partitioned (at_most_first l z chunks are size o)
          (λ a r f' k. search rules)));
    }
