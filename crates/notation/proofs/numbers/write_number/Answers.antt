-- `write_number` copies the number's text, and stores the byte after it.
use Rattle.std.proofs.Common.{arith, w64, ap, length, ◌≡◌, ◌∙◌}
use Rattle.std.proofs.lemmas.Int.{to_z-of_z}
use Rattle.notation.specs.Decimal.{number_text}
use Rattle.notation.proofs.Texts.{copied}
use Rattle.notation.proofs.numbers.write_number.Goals as goal

pub returns-clause-written : goal.returns-clause-written
returns-clause-written c =
    let t : c.text-digits.result.now ≡ number_text c.args.z = rw (to_z-of_z w64 c.args.z c.ranges.z) at c.text-digits.ensures.is in
    rw t (copied _ _ c.args.after (c.copy_from_slice.ensures.after ∙ t) (omega (arith, ap length t)) (omega (arith, c.requires, ap length t)))
