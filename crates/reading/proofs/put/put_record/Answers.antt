-- `put_record` stores the numbers of the record that it makes of the token. Assumes nothing.
use mathlib.Core.Path.{◌≡◌, ◌∙◌}
use mir.Syntax.{w64}
use mir.Val.{SFits}
use mir.ValLaws.{to_z-of_z}
use borrow.Author.Rules.{rules}
use Rattle.base.specs.Choice.{pick}
use Rattle.token.specs.Kind.{is_string}
use Rattle.reading.proofs.put.put_record.Goals.{Joined-is_string, then-is_string, else-is_string}
use Rattle.reading.proofs.put.put_record.Goals as goal

-- where the value is
value_is : (c : Joined-is_string) → let a = c.args in c.if-is_string.record ≡ pick (is_string a.t.kind) a.value_at a.t.value
value_is c =
    elim c.if-is_string.branch [
      | then-is_string w ↦ w.record-is ∙ (rw (← c.is_string.ensures, w.if-is_string.true))
      | else-is_string w ↦ w.record-is ∙ (rw (← c.is_string.ensures, w.if-is_string.false))
    ]

pub returns : goal.returns
returns c =
    let at = goal.at.returns c in
    let f : SFits w64 c.args.t.nanos = search rules in
    rw (c.store.ensures, c.numbers.ensures, c.kind_number.ensures, c.number_of.ensures, value_is at.Joined-is_string, to_z-of_z w64 c.args.t.nanos f)
