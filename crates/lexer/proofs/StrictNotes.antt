-- For crate `reading`: strict lexers make no report. By cases on the class. Assumes nothing.
use mathlib.Core.Path.{◌≡◌, refl}
use mathlib.Core.List.{List, []}
use Prim.Native.Nat.{ℕ}
use lib.Dec.{ltb, eqb}
use lib.ListN.{length}
use Rattle.base.proofs.Tests.{pick_case}
use Rattle.lexeme.specs.Lexeme.{Note}
use Rattle.lexeme.specs.declared.Mode.TheVariants.{Strict}
use Rattle.scan.specs.Comment.{body_end, block_notes}
use Rattle.scan.specs.Bytes.{bytes_notes}
use Rattle.strings.specs.Literal.{literal_notes, string_notes}
use Rattle.triple_strings.specs.Triple.{closed, triple_notes}
use Rattle.lexer.specs.Lexer.{class_at, notes_by, notes_of}
use Rattle.lexer.specs.Reading.{mode_of, notes_in}
use Rattle.lexer.specs.declared.class.Class.{Class}
use Rattle.lexer.specs.declared.class.Class.TheVariants as C
use Rattle.lexer.specs.declared.reading.Reading.{Reading}

strict_by : (k : Class) (limit : ℕ) (s : List ℕ) → notes_by k Strict limit s ≡ []
unfolding notes_by block_notes triple_notes string_notes literal_notes bytes_notes
strict_by C.Newline limit s = refl
strict_by C.LineComment limit s = refl
strict_by C.BlockComment limit s = pick_case (λ (ns : List Note). ns ≡ []) (ltb (body_end s) (length s)) (λ _. refl) (λ _. refl)
strict_by C.Triple limit s = pick_case (λ (ns : List Note). ns ≡ []) (closed s) (λ _. refl) (λ _. refl)
strict_by C.Quote limit s = refl
strict_by C.Bytes limit s = refl
strict_by (C.Single k) limit s = refl
strict_by C.Directive limit s = refl
strict_by C.Number limit s = refl
strict_by C.Name limit s = refl
strict_by C.Other limit s = refl

-- a reading by strict lexers has none
pub strict_notes : (m : Reading) → mode_of m ≡ Strict → (limit : ℕ) (s : List ℕ) → notes_in m limit s ≡ []
unfolding notes_in notes_of
strict_notes m e limit s =
    rw e (pick_case (λ (ns : List Note). ns ≡ []) (eqb (length s) 0) (λ _. refl) (λ _. strict_by (class_at s) limit s))
