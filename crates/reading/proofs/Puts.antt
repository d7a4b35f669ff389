-- For `put_notes`: a token which counts no report has none. By the room for a token. Assumes nothing.
use mathlib.Core.Path.{◌≡◌, ◌∙◌}
use mathlib.Core.List.{List, []}
use Prim.Native.Nat.{ℕ}
use Rattle.base.proofs.Stores.{empty}
use Rattle.lexeme.specs.Helpers.{notes_numbers}
use Rattle.lexer.specs.declared.next.Token.{Token}
use Rattle.lexer.specs.declared.reading.Reading.{Reading}
use Rattle.reading.specs.Passes.{NotesRoom}
use Rattle.reading.proofs.NextToken.{notes_at, numbers_at}

module _ {m : Reading} {limit : ℕ} {text : List ℕ} {t : Token} {room at : ℕ} (h : NotesRoom m limit text t room at) where
  pub no_reports : t.reports ≡ 0 → numbers_at m limit text t ≡ []
  unfolding notes_numbers
  no_reports z = rw (empty (notes_at m limit text t) (h.counted ∙ z))
