-- `put_refusal` writes the word and the number, one after the other. Assumes nothing.
use mathlib.Core.Path.{◌≡◌, refl}
use mathlib.Core.List.{[], ◌∷◌, ◌++◌}
use native.Mathlib.Omega.{arith}
use lib.IntN.{pos}
use lib.ListN.{length}
use lib.Seq.{sets}
use Rattle.base.specs.Characters.{ascii}
use Rattle.base.proofs.Signed.{signed}
use Rattle.base.proofs.Stores.{stored_then}
use Rattle.notation.specs.Decimal.{number_text}
use Rattle.listing_lines.specs.Lines.{line_text, refused_line}
use Rattle.listing_lines.proofs.Lines.{refused_length}
use Rattle.listing_lines.proofs.Fills.{short_fills, whole_fills}
use Rattle.listing_lines.proofs.put_refusal.Goals.{After-number_size}
use Rattle.listing_lines.proofs.put_refusal.Goals as goal

-- how long the number is
size_is : (c : After-number_size) → c.number_size.result ≡ length (number_text (pos c.args.number))
size_is c = rw (c.from-z.ensures, signed c.args.number (omega arith)) at c.number_size.ensures.size

pub returns-then-out-size : goal.returns-then-out-size
returns-then-out-size c =
    let at = goal.at.returns-then-out-size c in
    let n = c.args.number in
    short_fills (refused_line n) c.args.out.now (omega (arith, c.if-out-size.true, (size_is at.After-number_size), refused_length n))

pub returns : goal.returns
unfolding line_text
returns c =
    let at = goal.at.returns c in
    let n = c.args.number in
    let out = c.args.out.now in
    let size = (size_is at.After-number_size) in
    let number = rw (c.from-z.ensures, signed n (omega arith)) at c.write_number.ensures in
    let written : c.write_number.new.out ≡ sets out 0 (refused_line n) =
    (stored_then {l = out} {i = 0} {vs = ascii "refused "} {ws = number_text (pos n) ++ (0x0A ∷ [])} (record { is = c.copy.ensures }) refl
    (record { is = number.written })).is in
    whole_fills (refused_line n) out (omega (arith, number.end, refused_length n)) (omega (arith, size, refused_length n, c.if-out-size.false)) written
