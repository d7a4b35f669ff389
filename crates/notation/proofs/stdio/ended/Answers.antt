-- `ended` copies the number's text, and stores the byte after it.
use Rattle.std.proofs.Common.{arith, ap, length, refl, ◌≡◌, ◌≤◌, ◌+◌, ◌∙◌}
use Rattle.notation.proofs.Texts.{taken}
use Rattle.notation.proofs.stdio.ended.Goals as goal

pub returns : goal.returns
returns g c =
    let t : c.as_bytes-digits.result.now ≡ g.I.Integer.text c.args.n = c.as_bytes-digits.ensures.value ∙ c.format.ensures.text in
    let room : length (g.I.Integer.text c.args.n) + 1 ≤ length c.args.out.now = omega (arith, ap length t, c.fits-out, c.format.ensures.short) in
    rw t (taken c.args.out.now c.args.after (length (g.I.Integer.text c.args.n)) (c.copy_from_slice.ensures.after ∙ t) refl room)
