-- The twelve numbers of a record: eleven are below 2^63 and stay themselves as signed ones, the nanoseconds are signed already. Assumes nothing.
use mir.Syntax.{w64}
use mir.Val.{SFits}
use borrow.Author.Rules.{rules}
use mir.ValLaws.{to_z-of_z}
use Rattle.base.proofs.Signed.{signed}
use Rattle.token.proofs.layout.Record.numbers.Goals as goal

pub returns : goal.returns
returns c =
    let f : SFits w64 c.args.self.nanos = search rules in
    rw (to_z-of_z w64 _ f) (search signed)
