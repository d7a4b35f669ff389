-- For `lex_number` and what it calls: each part of a number is a step that ends in the text and between characters, and stays on its line. By cases
-- on the tests. Assumes nothing.
use mathlib.Core.Path.{◌≡◌, refl}
use mathlib.Core.Bool.{Bool, true, false, ◌&&◌, ◌||◌}
use mathlib.Core.List.{List}
use Prim.Native.Nat.{ℕ, ◌+◌, ◌≤◌, ◌<◌}
use native.Mathlib.Omega.{arith}
use borrow.Author.Tests.{ltb-true, ne_eqb}
use lib.Dec.{eqb}
use lib.ListN.{length}
use Rattle.base.specs.Choice.{pick}
use Rattle.base.specs.Bytes.{byte}
use Rattle.base.specs.Classes.{is_digit, is_space}
use Rattle.base.specs.Digits.{in_digits}
use Rattle.base.specs.Runs.{reach, past}
use Rattle.base.proofs.Reaches.{reach_ge, reach_le}
use Rattle.base.proofs.Walks.{past_ge, past_le}
use Rattle.base.proofs.Tests.{and_left, pick_case, in_text}
use Rattle.token.specs.Helpers.{Flat}
use Rattle.utf8.specs.Onward.{Boundary}
use Rattle.utf8.proofs.Boundaries.{ascii_boundary}
use Rattle.scan.specs.Run.{ends_timestamp, in_stamp, unit_piece}
use Rattle.scan.specs.Number.{past_point, past_sign, past_exponent, past_fraction, value_end}
use Rattle.scan.proofs.Flats.{flat_byte, flat_run}
use Rattle.scan.proofs.Runs.{low, equal_high, digits_boundary, stamp_boundary, units_boundary, units_flat}

pub record Goes (s : List ℕ) (i e : ℕ) : Type 0 where
  pub ge : i ≤ e
  pub le : i ≤ length s → e ≤ length s
  pub between : Boundary s i → Boundary s e
  pub flat : Flat s i → Flat s e

-- no byte from 0x80 on is one of two ASCII bytes
pub either_high : (j k : ℕ) → j < 0x80 → k < 0x80 → (a : ℕ) → 0x80 ≤ a → eqb a j || eqb a k ≡ false
either_high j k l m a h = simp (equal_high j l a h, equal_high k m a h)

module _ (s : List ℕ) where
  pub goes_none : (i : ℕ) → Goes s i i
  goes_none i = record { ge = omega arith; le = λ h. h; between = λ b. b; flat = λ f. f }

  pub goes_then : {i j e : ℕ} → Goes s i j → Goes s j e → Goes s i e
  goes_then g h =
      record { ge = omega (arith, g.ge, h.ge); le = λ l. h.le (g.le l); between = λ b. h.between (g.between b); flat = λ f. h.flat (g.flat f) }

  -- over a run that has no newline
  goes_run : (p : ℕ → ℕ → Bool) → ((b : ℕ) → p 10 b ≡ false) → (i : ℕ) → (Boundary s i → Boundary s (reach p s i)) → Goes s i (reach p s i)
  goes_run p z i b = record { ge = reach_ge p s i; le = reach_le p s i; between = b; flat = flat_run s p z i }

  pub goes_digits : (i : ℕ) → Goes s i (reach in_digits s i)
  unfolding is_digit
  goes_digits i = goes_run in_digits (λ b. refl) i (digits_boundary s i)

  pub goes_stamp : (i : ℕ) → Goes s i (reach in_stamp s i)
  unfolding ends_timestamp is_space
  goes_stamp i = goes_run in_stamp (λ b. refl) i (stamp_boundary s i)

  pub goes_units : (i : ℕ) → Goes s i (past unit_piece s i)
  goes_units i = record { ge = past_ge unit_piece s i; le = past_le unit_piece s i; between = units_boundary s i; flat = units_flat s i }

  -- over a byte that passes a test of ASCII bytes but 0 and newline
  pub goes_byte : (p : ℕ → Bool) → p 0 ≡ false → p 10 ≡ false → ((a : ℕ) → 0x80 ≤ a → p a ≡ false) → (i : ℕ) → p (byte s i) ≡ true → Goes s i (i + 1)
  goes_byte p z n high i e =
      let h = in_text p s i z e in
      record {
        ge = omega arith;
        le = λ l. omega arith;
        between = ascii_boundary s i h (ltb-true (byte s i) 0x80 (low p high (byte s i) e));
        flat = flat_byte s p n i e;
      }

  -- over a given ASCII byte above newline
  pub goes_over : (k : ℕ) → 10 < k → k < 0x80 → (i : ℕ) → eqb (byte s i) k ≡ true → Goes s i (i + 1)
  goes_over k z l = goes_byte (λ a. eqb a k) (ne_eqb 0 k (λ e. omega arith)) (ne_eqb 10 k (λ e. omega arith)) (equal_high k l)

  -- a step that is made or not
  goes_if : {i e : ℕ} (b : Bool) → (b ≡ true → Goes s i e) → Goes s i (pick b e i)
  goes_if {i} b f = pick_case (Goes s i) b f (λ _. goes_none i)

  pub goes_point : (i : ℕ) → Goes s i (past_point s i)
  unfolding past_point
  goes_point i = goes_if (eqb (byte s i) 46) (λ e. goes_then (goes_over 46 (omega arith) (omega arith) i e) (goes_digits (i + 1)))

  pub goes_fraction : (i : ℕ) → Goes s i (past_fraction s i)
  unfolding past_fraction
  goes_fraction i =
      let x = eqb (byte s i) 46 in
      let y = is_digit (byte s (i + 1)) in
      goes_if (x && y) (λ e. goes_then (goes_over 46 (omega arith) (omega arith) i (and_left x y e)) (goes_digits (i + 1)))

  goes_sign : (i : ℕ) → Goes s i (past_sign s i)
  unfolding past_sign
  goes_sign i =
      goes_if (eqb (byte s i) 43 || eqb (byte s i) 45)
      (λ e. goes_byte (λ a. eqb a 43 || eqb a 45) refl refl (either_high 43 45 (omega arith) (omega arith)) i e)

  goes_exponent : (i : ℕ) → Goes s i (past_exponent s i)
  unfolding past_exponent
  goes_exponent i =
      goes_if (eqb (byte s i) 101 || eqb (byte s i) 69)
      (λ e. goes_then (goes_byte (λ a. eqb a 101 || eqb a 69) refl refl (either_high 101 69 (omega arith) (omega arith)) i e)
      (goes_then (goes_sign (i + 1)) (goes_digits (past_sign s (i + 1)))))

  -- the value of a number whose digits and fraction end at f
  pub goes_value : (f : ℕ) (float : Bool) → Goes s f (value_end s f float)
  unfolding value_end
  goes_value f float = goes_if float (λ q. goes_then (goes_point f) (goes_exponent (past_point s f)))
