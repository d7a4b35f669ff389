-- Names and directives: `lex_ident` and `lex_directive`.
use Rattle.std.specs.Prelude.{◌||◌, List, ℕ, ◌-◌, eqb, take, drop}
use Rattle.base.specs.Characters.{ascii}
use Rattle.base.specs.Choice.{pick}
use Rattle.base.specs.Bytes.{same_bytes}
use Rattle.base.specs.Runs.{reach}
use Rattle.token.specs.declared.kind.TokenKind.{TokenKind}
use Rattle.token.specs.declared.kind.TokenKind.TheVariants as K
use Rattle.token.specs.declared.reason.Reason.TheVariants as R
use Rattle.lexeme.specs.Lexeme.{whole, extent, illegal}
use Rattle.lexeme.specs.declared.Lexeme.{Lexeme}
use Rattle.scan.specs.Run.{in_name}

-- Types that other files explain: `TokenKind` in token/specs/Kind.antt; `Lexeme` in lexeme/specs/Lexeme.antt.

-- `true`, `false`, `null`
abbrev pub true_word : List ℕ
true_word = ascii "true"

abbrev pub false_word : List ℕ
false_word = ascii "false"

abbrev pub null_word : List ℕ
null_word = ascii "null"

-- `type`, `dataset`, `proto`
abbrev pub type_word : List ℕ
type_word = ascii "type"

abbrev pub dataset_word : List ℕ
dataset_word = ascii "dataset"

abbrev pub proto_word : List ℕ
proto_word = ascii "proto"

-- what a name is
unfoldable pub name_kind : List ℕ → TokenKind
name_kind w = pick (same_bytes w true_word || same_bytes w false_word) K.Bool (pick (same_bytes w null_word) K.Null K.Ident)

-- `lex_ident`: the run of a name's bytes
unfoldable pub lex_ident : List ℕ → Lexeme
lex_ident s = whole (name_kind (take (reach in_name s 0) s)) (reach in_name s 0)

-- the directive of the name w, of n bytes with its `@`; "An AtDirective's value omits `@`"
unfoldable pub directive : List ℕ → ℕ → Lexeme
directive w n =
    pick (same_bytes w type_word) (whole K.AtType n)
    (pick (same_bytes w dataset_word) (whole K.AtDataset n)
    (pick (same_bytes w proto_word) (whole K.AtProto n) (extent K.AtDirective n 1 (n - 1) 0)))

-- `lex_directive`: "15 `@` without name", or the directive of the name
unfoldable pub lex_directive : List ℕ → Lexeme
lex_directive s =
    let n = reach in_name s 1 in
    pick (eqb n 1) (illegal R.AtWithoutName 0 1) (directive (take (n - 1) (drop 1 s)) n)
