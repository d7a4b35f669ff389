-- For the crate above, `lexer`: names, directives, numbers and unexpected characters make no report. By cases on the tests. Assumes nothing.
use mathlib.Core.Path.{◌≡◌, refl}
use mathlib.Core.Bool.{Bool, true, false}
use mathlib.Core.List.{List}
use Prim.Native.Nat.{ℕ}
use borrow.Author.Rules.{rules}
use Rattle.std.proofs.Common.{Option, Some, None, ℤ}
use Rattle.base.specs.Choice.{pick}
use Rattle.rfc3339.specs.declared.parse.Instant.{Instant}
use Rattle.lexeme.specs.declared.Lexeme.{Lexeme}
use Rattle.scan.specs.Comment.{lex_line_comment}
use Rattle.scan.specs.Name.{lex_ident, directive, lex_directive}
use Rattle.scan.specs.Number.{lex_precision, duration_by, lex_duration, lex_tail, timestamp_by, lex_timestamp, lex_digits, lex_number}
use Rattle.scan.specs.Other.{lex_other}

either : (b : Bool) (x y : Lexeme) → x.reports ≡ 0 → y.reports ≡ 0 → (pick b x y).reports ≡ 0
either true x y h k = h
either false x y h k = k

duration_silent : (p : Option ℤ) (n : ℕ) → (duration_by p n).reports ≡ 0
duration_silent (Some z) n = refl
duration_silent None n = refl

date_silent : (r : Option Instant) (n : ℕ) → (timestamp_by r n).reports ≡ 0
date_silent (Some i) n = refl
date_silent None n = refl

module _ (s : List ℕ) where
  pub line_silent : (lex_line_comment s).reports ≡ 0
  unfolding lex_line_comment
  line_silent = refl

  pub ident_silent : (lex_ident s).reports ≡ 0
  unfolding lex_ident
  ident_silent = refl

  pub other_silent : (lex_other s).reports ≡ 0
  unfolding lex_other
  other_silent = refl

  pub directive_silent : (lex_directive s).reports ≡ 0
  unfolding lex_directive directive
  directive_silent = search (rules, either)

  pub number_silent : (lex_number s).reports ≡ 0
  unfolding lex_number lex_digits lex_timestamp lex_tail lex_duration lex_precision
  number_silent = search (rules, either, duration_silent, date_silent)
