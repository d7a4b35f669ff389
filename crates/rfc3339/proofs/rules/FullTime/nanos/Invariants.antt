-- `nanos` is `secfrac_nanos`: after k turns its number is that of the first k digits, with zeros after fewer. Assumes nothing.
use mathlib.Core.Path.{◌≡◌}
use Rattle.rfc3339.specs.Instant.{secfrac_digits}
use Rattle.rfc3339.proofs.Nanos.{front}
use Rattle.rfc3339.proofs.rules.FullTime.nanos.Given as goal

abbrev pub invariant-loop-k : goal.invariant-loop-k
invariant-loop-k l = l.n ≡ front l.k (secfrac_digits l.self.run.now)
