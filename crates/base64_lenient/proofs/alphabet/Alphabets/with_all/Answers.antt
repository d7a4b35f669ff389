-- `with_all` meets its contract: the bytes passed and the bytes left make the whole, for each alphabet. Assumes nothing.
use Rattle.base.proofs.Blocks.{all_turn, all_end}
use Rattle.base64_lenient.specs.Rfc4648.{standard, url_safe}
use Rattle.base64_lenient.specs.Lenient.{is_in}
use Rattle.base64_lenient.proofs.alphabet.Alphabets.with_all.Goals as goal

pub loop-b-preserved : goal.loop-b-preserved
loop-b-preserved c = let l = c.loop-b in
    rw (c.in_standard-standard.ensures, c.in_url_safe-url_safe.ensures) (
      all_turn (is_in standard) _ l.standard _ l.invariant.0 c.loop-b-test.true,
      all_turn (is_in url_safe) _ l.url_safe _ l.invariant.1 c.loop-b-test.true,
    )

pub returns : goal.returns
returns c = let l = c.loop-b in
    let s = c.args.s.now in
    rw (
      all_end (is_in standard) s l.standard l.b-index l.invariant.0 c.loop-b-test.false,
      all_end (is_in url_safe) s l.url_safe l.b-index l.invariant.1 c.loop-b-test.false,
    )
