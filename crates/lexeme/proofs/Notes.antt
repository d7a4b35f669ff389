-- For the crates that lay reports: where each stands, how many numbers they have, one list after the other, and that each fits. By induction on the list.
-- Assumes nothing.
use mathlib.Core.Path.{◌≡◌, refl, sym, ap, ◌∙◌}
use mathlib.Core.List.{List, [], ◌∷◌, ◌++◌, append_assoc}
use Prim.Native.Nat.{ℕ, ◌*◌, ◌≤◌}
use native.Mathlib.Omega.{arith}
use lib.ListN.{length}
use lib.IntN.{ℤ}
use Rattle.limits.specs.Limits.{max_message_size}
use Rattle.token.specs.Place.{place_at}
use Rattle.token.specs.Reason.{reason_number}
use Rattle.token.specs.Layout.{report_width, report_numbers}
use Rattle.token.specs.Helpers.{ReportFits}
use Rattle.token.specs.declared.place.Place.{Place}
use Rattle.token.specs.declared.reason.Reason.{Reason}
use Rattle.token.proofs.Places.{Moved, place_moved}
use Rattle.token.proofs.ReasonNumbers.{reason_le}
use Rattle.lexeme.specs.Lexeme.{Note}
use Rattle.lexeme.specs.Reports.{report_at, report_of}
use Rattle.lexeme.specs.Helpers.{notes_numbers}

-- each report of a list stands within n bytes of the token's start
pub data NotesIn (n : ℕ) : List Note → Type 0 where
  none : NotesIn n []
  more : {x : Note} {xs : List Note} → x.offset ≤ n → NotesIn n xs → NotesIn n (x ∷ xs)

module _ (text : List ℕ) (a : ℕ) where
  pub notes_length : (ns : List Note) → length (notes_numbers text a ns) ≡ length ns * report_width
  unfolding notes_numbers
  notes_length [] = refl
  notes_length (n ∷ ns) = omega (arith, notes_length ns)

  pub notes_append : (ms ns : List Note) → notes_numbers text a (ms ++ ns) ≡ notes_numbers text a ms ++ notes_numbers text a ns
  unfolding notes_numbers
  notes_append [] ns = refl
  notes_append (m ∷ ms) ns =
      ap (λ (l : List ℤ). report_numbers (report_of text a m) ++ l) (notes_append ms ns)
      ∙ sym (append_assoc (report_numbers (report_of text a m)) (notes_numbers text a ms) (notes_numbers text a ns))

-- a report at a place of a text that is read has small numbers
pub report_fits : (text : List ℕ) (i : ℕ) (p : Place) (reason : Reason) (n detail : ℕ) → p ≡ place_at text i → i ≤ length text → length text ≤ max_message_size
    → n ≡ reason_number reason → detail ≤ 255 → ReportFits (report_at p n detail)
report_fits text i p reason n detail e h k v d =
    let m : Moved _ (place_at text i) i = place_moved text i h in
    let r = reason_le reason in
    rw e (record { reason = omega arith; detail = omega arith; offset = omega arith; line = omega arith; column = omega arith })
