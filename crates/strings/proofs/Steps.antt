-- For `step_at`: the end of a bad escape fits. By the facts of its piece. Assumes nothing.
use mathlib.Core.Path.{◌≡◌, sym, ◌∙◌, subst}
use mathlib.Core.List.{List}
use Prim.Native.Nat.{ℕ, ◌+◌, ◌-◌, ◌^◌, ◌≤◌, ◌<◌}
use native.Mathlib.Omega.{arith}
use lib.ListN.{length, drop, take, length-drop}
use mir.Syntax.{w64}
use mir.Val.{Fits}
use Rattle.base.proofs.Reaches.{rest_is}
use Rattle.strings.specs.Piece.{piece_of}
use Rattle.strings.specs.declared.piece.BadEscape.{BadEscape}
use Rattle.strings.specs.declared.piece.Piece.{Piece}
use Rattle.strings.specs.declared.piece.Piece.TheVariants as piece
use Rattle.strings.proofs.PieceFacts.{PieceFacts, Refused, piece_facts}

-- the end of a bad escape is within the text
pub bad_fits : (s : List ℕ) (i : ℕ) (q : Piece) (x : BadEscape) (used : ℕ) → i ≤ length s → length s < 2 ^ 64
    → q ≡ piece_of (take (length s - i) (drop i s)) → q ≡ piece.Bad x used → Fits w64 (i + used)
bad_fits s i q x used h f e k =
    let p : piece_of (drop i s) ≡ piece.Bad x used = sym (rw (rest_is s i) at e) ∙ k in
    let u : Refused (drop i s) x used = subst (λ (y : Piece). PieceFacts (drop i s) y) p (piece_facts (drop i s)) in
    omega (arith, u.bytes.left, length-drop i s)
