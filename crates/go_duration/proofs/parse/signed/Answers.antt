-- `signed` is `with_sign`: an i64 holds the sum under its sign, but for 2^63 without `-`. Assumes nothing.
use Rattle.std.proofs.Common.{◌∙◌, arith}
use Rattle.std.proofs.lemmas.Int.{ints}
use Rattle.go_duration.proofs.RunSteps.{signed_is}
use Rattle.go_duration.proofs.parse.signed.Goals.{then-neg, else-neg}
use Rattle.go_duration.proofs.parse.signed.Goals as goal

pub returns : goal.returns
returns c =
    c.ok.ensures.value ∙ signed_is c.args.neg c.args.d c.requires _
    (elim c.if-neg.branch [
      | then-neg w ↦ rw w.if-neg.true (omega (arith, ints))
      | else-neg w ↦ rw w.if-neg.false (omega (arith, ints))
    ]) _ c.try_from.ensures
