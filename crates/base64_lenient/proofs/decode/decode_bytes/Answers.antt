-- `decode_bytes` meets its contract, by what `judge` answers. Assumes nothing.
use Rattle.std.specs.Prelude.{Some}
use mathlib.Core.Path.{◌≡◌, sym, ◌∙◌}
use Rattle.base64_lenient.specs.Helpers.{judge_of}
use Rattle.base64_lenient.proofs.Answers.{short, filled}
use Rattle.base64_lenient.proofs.decode.decode_bytes.Goals as goal

pub returns-then-out-n : goal.returns-then-out-n
returns-then-out-n c =
    let judged : judge_of c.args.run.now ≡ Some c.in-Some.n = sym c.judge.ensures ∙ c.in-Some.is in
    short _ _ judged _ c.if-out-n.true

pub returns : goal.returns
returns c =
    let judged : judge_of c.args.run.now ≡ Some c.in-Some.n = sym c.judge.ensures ∙ c.in-Some.is in
    filled _ _ judged _ c.if-out-n.false _ c.put_bytes.ensures
