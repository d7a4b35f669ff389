-- The tokens of a text: one after the other, each from the end of the one before, to the first that ends them.
use Rattle.std.specs.Prelude.{Bool, List, [], ◌∷◌, ℕ, zero, suc, ◌-◌, length}
use Rattle.base.specs.Choice.{pick}
use Rattle.token.specs.Kind.{is_eof}
use Rattle.lexer.specs.Token.{next_token}
use Rattle.lexer.specs.declared.next.Token.{Token}
use Rattle.lexer.specs.declared.reading.Reading.{Reading}

-- Types that other files explain: `Token` in lexer/specs/Token.antt; `Reading` in lexer/specs/Reading.antt.

-- a token, and those after it unless it ends them
unfoldable pub and_then : (Token → Bool) → Token → List Token → List Token
and_then ends t ts = t ∷ pick (ends t) [] ts

-- at most so many tokens from an offset on, to the first that ends them
unfoldable pub tokens_for : (Token → Bool) → Reading → ℕ → ℕ → List ℕ → ℕ → List Token
tokens_for ends m limit zero text at = []
tokens_for ends m limit (suc n) text at =
    and_then ends (next_token m limit text at) (tokens_for ends m limit n text (next_token m limit text at).end.offset)

-- all tokens from an offset on, to the first that ends them, by a test that the Eof meets: each but the Eof has a byte at least
unfoldable pub tokens_to : (Token → Bool) → Reading → ℕ → List ℕ → ℕ → List Token
tokens_to ends m limit text at = tokens_for ends m limit (suc (length text - at)) text at

-- the token is the Eof
abbrev pub eof_token : Token → Bool
eof_token t = is_eof t.kind

-- all tokens from an offset on: "exactly one Eof closes them"
abbrev pub tokens_from : Reading → ℕ → List ℕ → ℕ → List Token
tokens_from m limit text at = tokens_to eof_token m limit text at

-- the tokens of a text
unfoldable pub tokens : Reading → ℕ → List ℕ → List Token
tokens m limit text = tokens_from m limit text 0
