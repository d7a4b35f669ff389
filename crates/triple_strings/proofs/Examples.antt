-- Worked examples of triple-quoted strings: one table, and one theorem that antt computes. Assumes nothing.
use mathlib.Core.Path.{◌≡◌, refl}
use mathlib.Core.List.{List, [], ◌∷◌, ◌++◌, map}
use Prim.Native.Nat.{ℕ}
use Rattle.base.specs.Characters.{ascii}
use Rattle.base.specs.Runs.{run, reach}
use Rattle.utf8.specs.Grammar.{utf8_char, char_size}
use Rattle.utf8.specs.Character.{code_bits, code_of, white_space, is_white, white_size}
use Rattle.utf8.specs.Check.{is_tail, char_end}
use Rattle.token.specs.declared.kind.TokenKind.TheVariants as K
use Rattle.token.specs.declared.reason.Reason.TheVariants as R
use Rattle.lexeme.specs.Lexeme.{extent, illegal, Note, note_at_start}
use Rattle.lexeme.specs.declared.Lexeme.{Lexeme}
use Rattle.lexeme.specs.declared.Mode.{Mode}
use Rattle.lexeme.specs.declared.Mode.TheVariants.{Strict, Tolerant}
use Rattle.triple_strings.specs.Dedent.{first, others, blank, prefix, strip, unlead, unindent, dedent}
use Rattle.triple_strings.specs.Triple.{quotes, until_quotes, raw_size, raw_bytes, closed, open_triple_end, lex_triple_string, triple_bytes}
use Rattle.triple_strings.specs.Triple.{triple_notes}

-- what a text is read as
record Answer : Type 0 where
  lexeme : Lexeme
  value : List ℕ
  notes : List Note

abbrev answer : Lexeme → List ℕ → List Note → Answer
answer r v n = record { lexeme = r; value = v; notes = n }

record Example : Type 0 where
  mode : Mode
  text : List ℕ
  expected : Answer

abbrev example : Mode → List ℕ → Answer → Example
example m s a = record { mode = m; text = s; expected = a }

-- three quotes
abbrev qqq : List ℕ
qqq = ascii "\"\"\""

-- a closed one, read strictly
abbrev string : List ℕ → ℕ → ℕ → List ℕ → Example
string raw n size value = example Strict (qqq ++ raw ++ qqq) (answer (extent K.String n 0 size 0) value [])

-- an open one
abbrev open_strict : List ℕ → ℕ → Example
open_strict raw n = example Strict (qqq ++ raw) (answer (illegal R.OpenTripleString 0 n) [] [])

abbrev open_tolerant : List ℕ → ℕ → ℕ → List ℕ → Example
open_tolerant raw n size value = example Tolerant (qqq ++ raw) (answer (extent K.String n 0 size 1) value (note_at_start R.OpenTripleString ∷ []))

unfoldable table : List Example
table =
    -- the last line is the indent, two spaces; then one of U+3000, which the second line lacks
    string (ascii "\n  a\n  ") 13 1 (ascii "a")
    ∷ string (0xE3 ∷ 0x80 ∷ 0x80 ∷ ascii "a\nb\n" ++ (0xE3 ∷ 0x80 ∷ 0x80 ∷ [])) 16 3 (ascii "a\nb")
    -- the last line is not blank: only the leading newline goes
    ∷ string (ascii "\n a\n b") 12 5 (ascii " a\n b")
    -- only White_Space, a space and U+00A0; no newline; nothing; only a newline, and two
    ∷ string (ascii " " ++ (0xC2 ∷ 0xA0 ∷ [])) 9 0 []
    ∷ string (ascii "a") 7 1 (ascii "a")
    ∷ string [] 6 0 []
    ∷ string (ascii "\n") 7 0 []
    ∷ string (ascii "\n\n") 8 0 []
    -- a carriage return is White_Space, and is kept before a newline
    ∷ string (ascii "\ra\n\r") 10 1 (ascii "a")
    ∷ string (ascii "a\r\n") 9 2 (ascii "a\r")
    -- open: all of it, with a report; or two bytes before the end, and after the character there, U+00E9
    ∷ open_tolerant (ascii "\n a\n ") 8 1 (ascii "a")
    ∷ open_tolerant [] 3 0 []
    ∷ open_strict (ascii "\n a\n ") 6
    ∷ open_strict (0xC3 ∷ 0xA9 ∷ ascii "a") 5
    ∷ open_strict (0xC3 ∷ 0xA9 ∷ []) 3
    ∷ open_strict (ascii "a") 3
    ∷ open_strict [] 3
    ∷ []

abbrev read : Example → Answer
read e = answer (lex_triple_string e.mode e.text) (triple_bytes e.mode e.text) (triple_notes e.mode e.text)

examples_hold : map read table ≡ map (λ e. e.expected) table
unfolding table lex_triple_string triple_bytes triple_notes quotes until_quotes raw_size raw_bytes closed open_triple_end dedent unindent unlead
    first others strip prefix blank white_size is_white white_space code_of code_bits char_size utf8_char char_end is_tail reach run
examples_hold = refl
