-- `main` lends an array to read into: it is as long as it says, by the library's law, since counting would be long.
use Rattle.std.proofs.Common.{ℕ, sym}
use Rattle.std.proofs.lemmas.List.{length-replicate}
use Rattle.cases.proofs.main.Goals as goal

pub slice_bounds-read-end : goal.slice_bounds-read-end
slice_bounds-read-end c = sym (length-replicate {0} {A = ℕ} 524288 0)
