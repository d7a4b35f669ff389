-- `put_simple` stores what the pairs that are left stand for after what is stored already. Assumes nothing.
use Rattle.base.proofs.Storings.{Storing}
use lib.ListN.{drop}
use Rattle.strings.proofs.Pairs.{pair_bytes}
use Rattle.strings.proofs.literal.put_simple.Given as goal

abbrev pub invariant-loop-k : goal.invariant-loop-k
invariant-loop-k l = Storing (pair_bytes l.pairs) l.initial.out 0 (pair_bytes (drop l.k l.pairs)) l.out l.k
