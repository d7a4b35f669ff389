-- `with_all` meets its contract: the bytes passed and the bytes left make the whole, for each alphabet. Assumes nothing.
use mathlib.Core.Path.{◌≡◌}
use mathlib.Core.Bool.{◌&&◌}
use lib.ListN.{drop}
use Rattle.base.specs.Blocks.{all_pass}
use Rattle.base64_lenient.specs.Rfc4648.{standard, url_safe}
use Rattle.base64_lenient.specs.Lenient.{is_in}
use Rattle.base64_lenient.proofs.alphabet.Alphabets.with_all.Given as goal

abbrev pub invariant-loop-b : goal.invariant-loop-b
invariant-loop-b l =
    (l.standard && all_pass (is_in standard) (drop l.b-index l.s) ≡ all_pass (is_in standard) l.s)
    × (l.url_safe && all_pass (is_in url_safe) (drop l.b-index l.s) ≡ all_pass (is_in url_safe) l.s)
