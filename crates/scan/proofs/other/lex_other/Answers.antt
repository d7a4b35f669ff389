-- `lex_other` meets its contract: the code point and the end of the character at the front. Assumes nothing.
use mathlib.Core.Path.{◌≡◌}
use borrow.Author.Rules.{rules}
use Rattle.utf8.proofs.Codes.{code_in, code_decoded}
use Rattle.scan.specs.Other.{lex_other}
use Rattle.scan.proofs.other.lex_other.Goals as goal

pub returns : goal.returns
unfolding lex_other
returns c =
    let found : c.map_or-code.result ≡ code_in c.decode.result = search rules in
    rw (← c.char_end.ensures, ← code_decoded c.args.s.now, ← c.decode.ensures, ← found) c.illegal.ensures
