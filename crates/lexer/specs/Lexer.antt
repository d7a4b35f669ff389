-- The token at the front of the rest of a text: `next_token` of lexer.rs, after its blanks.
use Rattle.std.specs.Prelude.{◌&&◌, List, [], ℕ, eqb, length}
use Prim.Native.Char.{code}
use Rattle.base.specs.Choice.{pick}
use Rattle.base.specs.Bytes.{byte}
use Rattle.base.specs.Classes.{is_digit, is_ident_start}
use Rattle.token.specs.declared.kind.TokenKind.TheVariants as K
use Rattle.lexeme.specs.Lexeme.{whole, bare, Note}
use Rattle.lexeme.specs.declared.Lexeme.{Lexeme}
use Rattle.lexeme.specs.declared.Mode.{Mode}
use Rattle.scan.specs.Comment.{lex_line_comment, lex_block_comment, block_notes}
use Rattle.scan.specs.Name.{lex_ident, lex_directive}
use Rattle.scan.specs.Number.{lex_number}
use Rattle.scan.specs.Bytes.{lex_bytes, bytes_notes}
use Rattle.scan.specs.Other.{lex_other}
use Rattle.strings.specs.Literal.{lex_string, string_bytes, string_notes}
use Rattle.triple_strings.specs.Triple.{lex_triple_string, triple_bytes, triple_notes}
use Rattle.lexer.specs.declared.class.Class.{Class}
use Rattle.lexer.specs.declared.class.Class.TheVariants as C

-- Types of the code (src/class.rt). `Class`, which lexer reads a token: `Newline`, `LineComment`, `BlockComment`; `Triple`, after three quotes;
-- `Quote`; `Bytes`, after `b` and a quote; `Single kind`, a token of one byte; `Directive`, after `@`; `Number`, after a sign or a digit; `Name`;
-- `Other`, none of these.
-- Types that other files explain: `TokenKind` in token/specs/Kind.antt; `Lexeme`, `Mode` in lexeme/specs/Lexeme.antt.

-- what the first three bytes choose, in the order of `next_token`
unfoldable pub class_of : ℕ → ℕ → ℕ → Class
class_of a b c =
    pick (eqb a (code "\n")) C.Newline
    (pick (eqb a (code "#")) C.LineComment
    (pick (eqb a (code "/")) (pick (eqb b (code "/")) C.LineComment (pick (eqb b (code "*")) C.BlockComment C.Other))
    (pick (eqb a (code "\"")) (pick (eqb b (code "\"") && eqb c (code "\"")) C.Triple C.Quote)
    (pick (eqb a (code "b")) (pick (eqb b (code "\"")) C.Bytes C.Name)
    (pick (eqb a (code "{")) (C.Single K.LBrace)
    (pick (eqb a (code "}")) (C.Single K.RBrace)
    (pick (eqb a (code "[")) (C.Single K.LBracket)
    (pick (eqb a (code "]")) (C.Single K.RBracket)
    (pick (eqb a (code "(")) (C.Single K.LParen)
    (pick (eqb a (code ")")) (C.Single K.RParen)
    (pick (eqb a (code "=")) (C.Single K.Equals)
    (pick (eqb a (code ":")) (C.Single K.Colon)
    (pick (eqb a (code ",")) (C.Single K.Comma)
    (pick (eqb a (code "@")) C.Directive
    (pick (eqb a (code "+")) C.Number
    (pick (eqb a (code "-")) C.Number
    (pick (is_digit a) C.Number
    (pick (is_ident_start a) C.Name C.Other))))))))))))))))))

-- the class of what stands at the front of a list
unfoldable pub class_at : List ℕ → Class
class_at s = class_of (byte s 0) (byte s 1) (byte s 2)

-- the token of each class
unfoldable pub lex_by : Class → Mode → ℕ → List ℕ → Lexeme
lex_by C.Newline m limit s = bare K.Newline 1
lex_by C.LineComment m limit s = lex_line_comment s
lex_by C.BlockComment m limit s = lex_block_comment m s
lex_by C.Triple m limit s = lex_triple_string m s
lex_by C.Quote m limit s = lex_string m s
lex_by C.Bytes m limit s = lex_bytes m limit s
lex_by (C.Single k) m limit s = whole k 1
lex_by C.Directive m limit s = lex_directive s
lex_by C.Number m limit s = lex_number s
lex_by C.Name m limit s = lex_ident s
lex_by C.Other m limit s = lex_other s

-- the token at the front of a text that starts with no blank; at its end that is Eof
unfoldable pub lexeme_of : Mode → ℕ → List ℕ → Lexeme
lexeme_of m limit s = pick (eqb (length s) 0) (bare K.Eof 0) (lex_by (class_at s) m limit s)

-- the bytes that it lays into the string buffer: a String's value
unfoldable pub string_by : Class → Mode → List ℕ → List ℕ
string_by C.Newline m s = []
string_by C.LineComment m s = []
string_by C.BlockComment m s = []
string_by C.Triple m s = triple_bytes m s
string_by C.Quote m s = string_bytes m s
string_by C.Bytes m s = []
string_by (C.Single k) m s = []
string_by C.Directive m s = []
string_by C.Number m s = []
string_by C.Name m s = []
string_by C.Other m s = []

-- the same of the token at the front of a text that starts with no blank; the Eof has none
unfoldable pub string_of : Mode → List ℕ → List ℕ
string_of m s = pick (eqb (length s) 0) [] (string_by (class_at s) m s)

-- its reports, in the order in which the Rust records them
unfoldable pub notes_by : Class → Mode → ℕ → List ℕ → List Note
notes_by C.Newline m limit s = []
notes_by C.LineComment m limit s = []
notes_by C.BlockComment m limit s = block_notes m s
notes_by C.Triple m limit s = triple_notes m s
notes_by C.Quote m limit s = string_notes m s
notes_by C.Bytes m limit s = bytes_notes m limit s
notes_by (C.Single k) m limit s = []
notes_by C.Directive m limit s = []
notes_by C.Number m limit s = []
notes_by C.Name m limit s = []
notes_by C.Other m limit s = []

-- the same of the token at the front of a text that starts with no blank; the Eof has none
unfoldable pub notes_of : Mode → ℕ → List ℕ → List Note
notes_of m limit s = pick (eqb (length s) 0) [] (notes_by (class_at s) m limit s)
