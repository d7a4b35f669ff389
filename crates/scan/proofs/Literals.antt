-- For the crate above, `lexer`: bytes literals are within the text and end between characters; their reports stand at their start. By cases on
-- where they stop. Assumes nothing.
use mathlib.Core.Path.{◌≡◌, refl}
use mathlib.Core.List.Memᴰ
use mathlib.Core.List.{List, Memᴰ}
use Prim.Native.Nat.{ℕ, ◌+◌, ◌≤◌, ◌<◌, zero-le}
use native.Mathlib.Omega.{arith}
use borrow.Author.Tests.{eqb-true}
use lib.Dec.{eqb}
use lib.ListN.{length, drop}
use Rattle.base.specs.Choice.{pick}
use Rattle.base.specs.Bytes.{byte}
use Rattle.base.proofs.Tests.{pick_case}
use Rattle.token.specs.Kind.{kind_number}
use Rattle.token.specs.declared.kind.TokenKind.TheVariants as K
use Rattle.token.specs.declared.reason.Reason.TheVariants as R
use Rattle.lexeme.specs.Lexeme.{Note}
use Rattle.lexeme.specs.declared.Mode.{Mode}
use Rattle.lexeme.specs.declared.Mode.TheVariants.{Strict, Tolerant}
use Rattle.utf8.specs.Onward.{Boundary}
use Rattle.utf8.proofs.Boundaries.{ascii_boundary, boundary_at, end_boundary, char_end_ge, char_end_le, char_end_boundary}
use Rattle.scan.specs.Bytes.{bytes_stop, bytes_value, open_bytes_literal, bytes_by, lex_bytes, stop_notes, bytes_notes}
use Rattle.scan.specs.declared.bytes.Stop.TheVariants as stop
use Rattle.scan.specs.declared.bytes.Stop.{Stop}
use Rattle.utf8.proofs.Concatenations.{ascii_no_tail}
use Rattle.scan.proofs.Stops.{Stands, stands}
use Rattle.scan.proofs.Scanned.{plain, Scanned, Ends, extent_scanned, illegal_scanned}

-- the place of an ASCII byte behind the start
at_ascii : (s : List ℕ) (i b : ℕ) → b < 0x80 → i < length s → byte s i ≡ b → Boundary s 0 → Boundary s i
at_ascii s i b l h e = boundary_at s i (omega arith) (λ q. rw e (ascii_no_tail b l)) 0 zero-le

module _ (s : List ℕ) where
  value_scanned : (len n reports : ℕ) → n + 2 ≤ len → reports ≤ 1 → Ends s len → Scanned s (bytes_value len n reports)
  unfolding kind_number
  value_scanned len n reports g h e =
      extent_scanned s len e K.Bytes (pick (eqb n 0) len 2) n reports (plain K.Bytes refl)
      (pick_case (λ v. v + n ≤ len) (eqb n 0) (λ q. omega (arith, eqb-true n 0 q)) (λ q. omega arith))
      (omega arith)

  open_scanned : (m : Mode) (n : ℕ) → Ends s (n + 2) → Scanned s (open_bytes_literal m n)
  open_scanned Strict n e = illegal_scanned s (n + 2) e R.OpenBytes 0 (λ q. cc) (omega arith)
  open_scanned Tolerant n e = value_scanned (n + 2) n 1 (omega arith) (omega arith) e

  module _ (h : 2 ≤ length s) where
    stop_scanned : (m : Mode) (e : Stop) → Stands s e → Scanned s (bytes_by m s e)
    stop_scanned m (stop.Over n) l =
        illegal_scanned s _
        (record {
          some = omega (arith, char_end_ge s (n + 2));
          inside = char_end_le s (n + 2) (omega arith);
          between = char_end_boundary s (n + 2) (omega arith);
        })
        R.BytesOverLimit 0 (λ q. cc) (omega arith)
    stop_scanned m (stop.Closed n) l =
        let one : n + 2 + 1 ≡ n + 3 = omega arith in
        let q = l.0 in
        let c = l.1 in
        value_scanned (n + 3) n 0 (omega arith) (omega arith)
        (record {
          some = omega arith;
          inside = omega arith;
          between = λ b. rw one at (ascii_boundary s (n + 2) q (omega arith) (at_ascii s (n + 2) 34 (omega arith) q c b));
        })
    stop_scanned m (stop.Newline n) l =
        let q = l.0 in
        open_scanned m n (record { some = omega arith; inside = omega arith; between = at_ascii s (n + 2) 10 (omega arith) q l.1 })
    stop_scanned m (stop.Open n) l =
        let e : n + 2 ≡ length s = omega arith in
        open_scanned m n (record { some = omega arith; inside = omega arith; between = λ b. rw e (end_boundary s b) })

    pub bytes_scanned : (m : Mode) (limit : ℕ) → Scanned s (lex_bytes m limit s)
    unfolding lex_bytes
    bytes_scanned m limit = stop_scanned m (bytes_stop limit 0 (drop 2 s)) (stands limit s)

-- its reports: as many as the token says, and at its start
module _ (m : Mode) (limit : ℕ) (s : List ℕ) where
  pub bytes_notes_size : length (bytes_notes m limit s) ≡ (lex_bytes m limit s).reports
  unfolding bytes_notes lex_bytes
  bytes_notes_size = go m (bytes_stop limit 0 (drop 2 s))
    where
      go : (m : Mode) (e : Stop) → length (stop_notes m e) ≡ (bytes_by m s e).reports
      go Strict (stop.Over n) = refl
      go Strict (stop.Closed n) = refl
      go Strict (stop.Newline n) = refl
      go Strict (stop.Open n) = refl
      go Tolerant (stop.Over n) = refl
      go Tolerant (stop.Closed n) = refl
      go Tolerant (stop.Newline n) = refl
      go Tolerant (stop.Open n) = refl

  pub bytes_notes_start : (n : Note) → Memᴰ n (bytes_notes m limit s) → n.offset ≡ 0
  unfolding bytes_notes
  bytes_notes_start n = go m (bytes_stop limit 0 (drop 2 s))
    where
      go : (m : Mode) (e : Stop) → Memᴰ n (stop_notes m e) → n.offset ≡ 0
      go Strict e i = absurd (Memᴰ.not-nil i)
      go Tolerant (stop.Over k) i = absurd (Memᴰ.not-nil i)
      go Tolerant (stop.Closed k) i = absurd (Memᴰ.not-nil i)
      go Tolerant (stop.Newline k) i = rw (Memᴰ.eq_of_singleton i)
      go Tolerant (stop.Open k) i = rw (Memᴰ.eq_of_singleton i)
