-- For `see_front`, `see_around` and `try_offset`: a text that is cut at an offset is its two parts, and what is known of the surroundings
-- of a byte holds whatever byte stands there. By the laws of `Cuts`. Assumes nothing.
use Rattle.std.specs.Prelude.{Option, Some, None}
use mathlib.Core.Path.{◌≡◌, sym, ◌∙◌}
use mathlib.Core.Bool.{true}
use mathlib.Core.List.{List}
use Prim.Native.Nat.{ℕ, ◌-◌, ◌<◌}
use native.Mathlib.Nat.{add-zero}
use native.Mathlib.Omega.{arith}
use lib.IntN.{pos}
use lib.ListN.{length, set, take, drop, take-append-drop}
use lib.Seq.{length-take-le, get_or-take, get_or-drop, get_or-set_other, take-set-le, drop-set-lt}
use Rattle.base.specs.Bytes.{byte}
use Rattle.base.specs.Classes.{is_digit, is_lower_alpha}
use Rattle.base.proofs.Tests.{in_text, no_digit}
use Rattle.suggest.specs.Helpers.{seen_of, is_minus, join_seen, Seam}
use Rattle.suggest.specs.Helpers.{Before, Behind, Cut, Surrounds}
use Rattle.suggest.specs.declared.pieces.Around.{Around}
use Rattle.suggest.specs.declared.pieces.Side.{Side}
use Rattle.suggest.proofs.Cuts.{cut_seen, cut_minus}

module _ {text : List ℕ} {p : ℕ} (s : Seam text p) where
  pub seam_in : p < length text
  seam_in = in_text is_digit text p no_digit s.digit

  pub long : length (take p text) ≡ p
  long = length-take-le p text (omega (arith, seam_in))

  some : 0 < length (take p text)
  some = omega (arith, long, s.some)

  letter : is_lower_alpha (byte (take p text) (length (take p text) - 1)) ≡ true
  letter = rw long (rw (get_or-take p text (p - 1) 0 (omega (arith, s.some))) s.letter)

  digit : is_digit (byte (drop p text) 0) ≡ true
  digit = rw (get_or-drop p text 0 0, add-zero) s.digit

  -- the text is seen by its two parts, but for a zero under `-`
  pub seam_seen : (is_minus text ≡ true → seen_of (take p text) ≡ Some (pos 0) → ⊥)
      → join_seen (is_minus text) (seen_of (take p text)) (seen_of (drop p text)) ≡ seen_of text
  seam_seen z =
      let m = cut_minus (take p text) (drop p text) some letter digit in
      let c = cut_seen (take p text) (drop p text) some letter digit (λ n e o. z (rw (take-append-drop p text) at (m ∙ n)) e) in
      sym (rw (take-append-drop p text) at (rw (← m) at c))

-- ---- the surroundings of a byte

-- a cut stays where another byte is put
seam_set : {run : List ℕ} {p : ℕ} (i b : ℕ) → (p ≡ i → ⊥) → (p - 1 ≡ i → ⊥) → Seam run p → Seam (set run i b) p
seam_set {run} {p} i b m n s =
    record {
      some = s.some;
      letter = rw (get_or-set_other run i (p - 1) b 0 n) s.letter;
      digit = rw (get_or-set_other run i p b 0 m) s.digit;
    }

-- and so do the surroundings of that byte
pub cut_set : {run : List ℕ} {i : ℕ} {a : Around} (b : ℕ) → Surrounds run i a → Cut (set run i b) a
cut_set {run} {i} {a} b w = record { at = i; surrounds = record { before = front a.before w.before; behind = back a.behind w.behind } }
  where
    front : (s : Option Side) → Before run i s → Before (set run i b) i s
    front None h = tt
    front (Some s) h = (
      h.0,
      record {
        seam = seam_set i b (λ e. omega arith) (λ e. omega arith) h.1.seam;
        known = rw (take-set-le s.cut run i b (omega arith)) h.1.known;
      },
    )

    back : (s : Option Side) → Behind run i s → Behind (set run i b) i s
    back None h = tt
    back (Some s) h = (
      h.0,
      record {
        seam = seam_set i b (λ e. omega arith) (λ e. omega arith) h.1.seam;
        known = rw (drop-set-lt s.cut run i b (omega arith)) h.1.known;
      },
    )
