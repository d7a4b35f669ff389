-- `ordinary_end` meets its contract: a byte that does not stand for itself ends the run before it. Assumes nothing.
use mathlib.Core.Path.{◌≡◌, refl, sym, ap}
use mathlib.Core.Bool.{false, not}
use Rattle.base.specs.Bytes.{byte}
use Rattle.base.proofs.Reaches.{reach_stop}
use Rattle.base.proofs.Tests.{in_text}
use Rattle.strings.specs.Plain.{is_ordinary, in_ordinary}
use Rattle.strings.proofs.literal.ordinary_end.Goals as goal

pub returns-then-not-is_ordinary-clause-is : goal.returns-then-not-is_ordinary-clause-is
unfolding is_ordinary
returns-then-not-is_ordinary-clause-is c =
    let a = c.args in
    let e : is_ordinary (byte a.s.now a.i) ≡ false = rw (← c.peek.ensures, ← c.is_ordinary.ensures) c.if-not-is_ordinary.true in
    sym (reach_stop in_ordinary _ _ (in_text (λ b. not (is_ordinary b)) _ _ refl (ap not e)) e)
