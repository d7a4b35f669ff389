-- For SeenRuns: written parts whose bytes fit a Duration of the lexer are such as it takes. By induction on the parts, a part's point and unit being
-- looked at by their place. Assumes nothing.
use mathlib.Core.Path.{◌≡◌, refl}
use mathlib.Core.Bool.{Bool, true, false, not, ◌&&◌, ◌||◌}
use mathlib.Core.List.{List, [], ◌∷◌, ◌++◌, append_assoc}
use Prim.Native.Nat.{ℕ, ◌+◌, ◌<◌, zero-le, suc-le-suc}
use native.Mathlib.Nat.{add_assoc}
use native.Mathlib.Omega.{arith}
use borrow.Author.Tests.{not-true}
use lib.Dec.{eqb}
use lib.ListN.{length, length-append}
use lib.Seq.{get_or-append-add}
use Rattle.base.specs.Choice.{pick}
use Rattle.base.specs.Bytes.{byte}
use Rattle.base.specs.Classes.{is_digit}
use Rattle.base.proofs.Tests.{or_left, true_false}
use Rattle.go_duration.specs.Written.{WrittenPart, part_bytes, IsPart, Parts, none, more}
use Rattle.suggest.proofs.PartCuts.{Lexable, Pieces, no_piece, piece}
use Rattle.suggest.proofs.PieceRuns.{fit, Fit}
use Rattle.suggest.proofs.PieceWalks.{unit_plain}

-- what fits, behind its first bytes
pub fit_rest : (s a t : List ℕ) (m n : ℕ) → s ≡ a ++ t → m ≡ length a + n → Fit s 0 m → Fit t 0 n
fit_rest s a t m n e q f k h l =
    rw (e, add_assoc, get_or-append-add a t k 0, get_or-append-add a t (k + 1) 0) at (f (length a + k) zero-le (omega arith))

module _ (p : WrittenPart) (r : List ℕ) (i : IsPart p) (f : Fit (part_bytes p ++ r) 0 (length (part_bytes p))) where
  abbrev middle : List ℕ
  middle = pick p.point (46 ∷ p.fraction) []

  fit_middle : Fit (middle ++ (p.unit ++ r)) 0 (length (middle ++ p.unit))
  fit_middle =
      fit_rest (part_bytes p ++ r) p.whole (middle ++ (p.unit ++ r)) (length (part_bytes p)) (length (middle ++ p.unit))
      (rw (append_assoc, append_assoc middle p.unit r)) (length-append p.whole (middle ++ p.unit)) f

  fit_unit : Fit (p.unit ++ r) 0 (length p.unit)
  fit_unit =
      fit_rest (middle ++ (p.unit ++ r)) middle (p.unit ++ r) (length (middle ++ p.unit)) (length p.unit) refl (length-append middle p.unit) fit_middle

  -- no digit stands where the unit starts
  unit_no_digit : is_digit (byte (p.unit ++ r) 0) ≡ false
  unit_no_digit =
      let a = byte (p.unit ++ r) 0 in
      or_left (is_digit a) (eqb a 46) (or_left (is_digit a || eqb a 46) (eqb a 45) (unit_plain p.unit i.known r))

  lexable : Lexable p
  lexable = record { fraction = point p.point p.fraction fit_middle; unit = unit p.unit fit_unit }
    where
      point : (b : Bool) (s : List ℕ) → Fit (pick b (46 ∷ s) [] ++ (p.unit ++ r)) 0 (length (pick b (46 ∷ s) [] ++ p.unit)) → b ≡ true → 0 < length s
      point true [] g e = true_false (fit 46 (byte (p.unit ++ r) 0)) (g 0 zero-le (suc-le-suc zero-le)) (rw unit_no_digit)
      point true (a ∷ s) g e = suc-le-suc zero-le
      point false s g e = true_false false e refl

      unit : (u : List ℕ) → Fit (u ++ r) 0 (length u) → eqb (byte u 0) 0xCE ≡ false
      unit [] g = refl
      unit (a ∷ u) g =
          let x = eqb a 46 && not (is_digit (byte (u ++ r) 0)) in
          or_left (eqb a 0xCE) x (not-true (eqb a 0xCE || x) (g 0 zero-le (suc-le-suc zero-le)))

pub pieces_of : {ps : List WrittenPart} {s : List ℕ} → Parts ps s → (b : List ℕ) → Fit (s ++ b) 0 (length s) → Pieces ps s
pieces_of none b f = no_piece
pieces_of (more {p = p} {s = s} i q) b f =
    let e = append_assoc (part_bytes p) s b in
    let n = length-append (part_bytes p) s in
    piece i (lexable p (s ++ b) i (λ k h l. rw e at (f k h (omega arith))))
    (pieces_of q b (fit_rest ((part_bytes p ++ s) ++ b) (part_bytes p) (s ++ b) (length (part_bytes p ++ s)) (length s) e n f))
