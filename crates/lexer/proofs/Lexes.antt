-- For `FoundToken`: the laws of the token at the front of any text, whatever lexeme function stands behind `lexeme_in`: the next token and the calls on a text
-- know no more of it. The Eof keeps them by computation, any other token by its class. Assumes nothing.
use mathlib.Core.Path.{◌≡◌, sym, ap}
use mathlib.Core.Bool.{true}
use mathlib.Core.Logic.{⊎_elim}
use mathlib.Core.List.{List, [], ◌∷◌}
use Prim.Native.Nat.{ℕ, ◌+◌, ◌≤◌, ◌<◌}
use native.Mathlib.Nat.{eq-or-lt_of_le}
use native.Mathlib.Omega.{arith}
use lib.ListN.{length, take}
use borrow.Author.Rules.{rules}
use Rattle.base.specs.Bytes.{AreBytes}
use Rattle.utf8.specs.Grammar as octets
use Rattle.utf8.specs.Grammar.{Octets}
use Rattle.utf8.specs.Onward.{Boundary}
use Rattle.go_duration.specs.Written.{SumOfParts}
use Rattle.token.specs.Kind.{kind_number, eof_number, duration_number}
use Rattle.token.specs.Helpers.{on_one_line, Flat}
use Rattle.token.proofs.KindNumbers.{IsEof, number_kind_lem}
use Rattle.lexeme.specs.declared.Lexeme.{Lexeme}
use Rattle.lexeme.proofs.Notes.{NotesIn, none}
use Rattle.scan.proofs.Scanned.{StampRun, no_stamp}
use Rattle.lexer.specs.Lexer.{lexeme_of, string_of, notes_of}
use Rattle.lexer.specs.Reading.{mode_of, lexeme_in, string_in, notes_in}
use Rattle.lexer.specs.Token.{string_size}
use Rattle.lexer.specs.declared.reading.Reading.{Reading}
use Rattle.lexer.proofs.Lexed.{Lexed, lexed}

pub record Lexes (r : Reading) (limit : ℕ) (s : List ℕ) (x : Lexeme) : Type 0 where
  -- each token but the Eof takes a byte at least
  pub advances : (IsEof x.kind → ⊥) → 0 < x.len
  -- none takes more than there are
  pub ends_within : x.len ≤ length s
  -- the Eof stands only at the end
  pub eof_at_end : IsEof x.kind → length s ≡ 0
  -- from between two characters a token ends between two
  pub ends_between : Boundary s 0 → Boundary s x.len
  -- a value is no longer than its token, and so is a decoded string: "A string buffer as long as the text always suffices"
  pub value_in : x.value + x.size ≤ x.len
  pub precision_in : x.precision + x.digits ≤ x.len
  pub reports_in : x.reports ≤ x.len
  pub detail_in : AreBytes s → x.detail < 0x200000
  -- its string and its reports are as many as it says
  pub string_counted : length (string_in r s) ≡ string_size x.kind x.size
  pub notes_counted : length (notes_in r limit s) ≡ x.reports
  pub notes_within : NotesIn (length s) (notes_in r limit s)
  -- from between two characters its string is UTF-8
  pub string_utf8 : Boundary s 0 → Octets (string_in r s)
  -- a kind that has no newline in any text has none here
  pub on_line : on_one_line x.kind ≡ true → Flat s x.len
  -- a Duration is the sum of its parts
  pub duration : kind_number x.kind ≡ duration_number → SumOfParts (take x.len s) x.nanos
  -- a Timestamp's bytes are a date, those of a token with reason 21 are none
  pub timestamp : StampRun x.kind x.reason (take x.len s)

-- at the end of the text stands the Eof
at_end : (r : Reading) (limit : ℕ) (s : List ℕ) → length s ≡ 0 → Lexes r limit s (lexeme_in r limit s)
unfolding lexeme_in string_in notes_in lexeme_of string_of notes_of kind_number string_size
at_end r limit [] e =
    let x = lexeme_in r limit [] in
    let d : kind_number x.kind ≡ duration_number → SumOfParts (take x.len []) x.nanos = λ k. absurd (omega arith) in
    let t : StampRun x.kind x.reason (take x.len []) = no_stamp (λ k. absurd (omega (arith, ap kind_number k))) (λ k. absurd cc) in
    search (none, octets.none, rules)
at_end r limit (x ∷ s) e = absurd (omega arith)

module _ (r : Reading) (limit : ℕ) (s : List ℕ) where
  before_end : 0 < length s → Lexes r limit s (lexeme_in r limit s)
  unfolding lexeme_in string_in notes_in
  before_end h =
      let x : Lexeme = lexeme_of (mode_of r) limit s in
      let l : Lexed (mode_of r) limit s x = lexed (mode_of r) limit s h in
      let e : IsEof x.kind → length s ≡ 0 = λ k. absurd (l.not_eof (number_kind_lem x.kind eof_number k)) in
      let d : kind_number x.kind ≡ duration_number → SumOfParts (take x.len s) x.nanos = λ k. l.duration (number_kind_lem x.kind duration_number k) in
      search rules

  pub lexes : Lexes r limit s (lexeme_in r limit s)
  lexes = ⊎_elim (λ e. at_end r limit s (sym e)) (λ l. before_end l) (eq-or-lt_of_le (omega arith))
