-- For `scan`, `lexer`, `reading` and `listing_lines`: a kind's number is at most the last, and says the kind. By cases on the kind. Assumes nothing.
use mathlib.Core.Path.{◌≡◌, sym, ap, ◌∙◌}
use mathlib.Core.List.{List, [], ◌∷◌}
use Prim.Native.Nat.{ℕ, ◌≤◌}
use native.Mathlib.Omega.{arith}
use borrow.Author.Rules.{rules}
use lib.ListN.{get_or}
use Rattle.token.specs.Kind.{kind_number, eof_number, last_number}
use Rattle.token.specs.declared.kind.TokenKind.{TokenKind}
use Rattle.token.specs.declared.kind.TokenKind.TheVariants as K

-- the kind is Eof
abbrev pub IsEof : TokenKind → Type 0
IsEof k = kind_number k ≡ eof_number

-- the kinds in the order of their numbers
abbrev kinds : List TokenKind
kinds =
    K.Eof ∷ K.Illegal ∷ K.Newline ∷ K.Comment ∷ K.Ident ∷ K.String ∷ K.Int ∷ K.Float ∷ K.Bool ∷ K.Null ∷ K.Bytes ∷ K.Timestamp ∷ K.Duration
    ∷ K.LBrace ∷ K.RBrace ∷ K.LBracket ∷ K.RBracket ∷ K.LParen ∷ K.RParen ∷ K.Equals ∷ K.Colon ∷ K.Comma ∷ K.AtType ∷ K.AtDirective
    ∷ K.AtDataset ∷ K.AtProto ∷ []

abbrev kind_at : ℕ → TokenKind
kind_at n = get_or kinds n K.Eof

at_number : (k : TokenKind) → kind_at (kind_number k) ≡ k
unfolding kind_number
at_number k = search rules

pub number_le : (k : TokenKind) → kind_number k ≤ last_number
unfolding kind_number
number_le k = grind arith

pub number_kind_lem : (k : TokenKind) (n : ℕ) → kind_number k ≡ n → k ≡ kind_at n
number_kind_lem k n e = sym (at_number k) ∙ ap kind_at e
