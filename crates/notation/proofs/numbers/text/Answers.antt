-- `text` is the library's.
use Rattle.std.proofs.Common.{w64, ◌∙◌}
use Rattle.std.proofs.lemmas.Int.{to_z-of_z}
use Rattle.notation.proofs.Texts.{text_is}
use Rattle.notation.proofs.numbers.text.Goals as goal

pub returns-clause-is : goal.returns-clause-is
returns-clause-is c =
    c.as_bytes.ensures.value ∙ (rw (to_z-of_z w64 c.args.z c.ranges.z) at c.format.ensures.text) ∙ text_is c.args.z c.ranges.z
