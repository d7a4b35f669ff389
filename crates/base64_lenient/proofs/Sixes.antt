-- For Rfc4648: bytes as numbers of six bits. To take them apart, with any pad bits, and to regroup the numbers are inverse to each other: three bytes and
-- four numbers at a time, by arithmetic. Assumes nothing.
use mathlib.Core.Path.{◌≡◌, refl}
use mathlib.Core.List.{List, [], ◌∷◌}
use Prim.Native.Nat.{ℕ, zero, suc, ◌+◌, ◌*◌, ◌/◌, ◌%◌, ◌≤◌, ◌<◌}
use native.Mathlib.Omega.{arith}
use lib.Dec.{lit<, lit≤}
use lib.ListN.{length}
use Rattle.base.specs.Bytes.{AreBytes}
use Rattle.base64_lenient.specs.Rfc4648.{pad_bits_range}
use Rattle.base64_lenient.specs.Lenient.{regroup}
use Rattle.base64_lenient.specs.Leniencies.{pad_bits_of}

-- each number of the list is below n
abbrev pub Below : ℕ → List ℕ → Type 0
Below n [] = Unit {0}
Below n (x ∷ l) = (x < n) × Below n l

-- `AreBytes` says it by places
pub bytes_below : (l : List ℕ) → AreBytes l → Below 256 l
bytes_below [] h = tt
bytes_below (x ∷ l) h = (h 0, bytes_below l (λ k. h (suc k)))

pub below_bytes : (l : List ℕ) → Below 256 l → AreBytes l
below_bytes [] h k = lit< tt
below_bytes (x ∷ l) h zero = h.0
below_bytes (x ∷ l) h (suc k) = below_bytes l h.1 k

-- the numbers that `encode_with` has characters for
unfoldable pub sixes_of : ℕ → List ℕ → List ℕ
sixes_of bits [] = []
sixes_of bits (x ∷ []) = x / 4 ∷ (x % 4 * 16 + bits) ∷ []
sixes_of bits (x ∷ y ∷ []) = x / 4 ∷ (x % 4 * 16 + y / 16) ∷ (y % 16 * 4 + bits) ∷ []
sixes_of bits (x ∷ y ∷ z ∷ l) = x / 4 ∷ (x % 4 * 16 + y / 16) ∷ (y % 16 * 4 + z / 64) ∷ z % 64 ∷ sixes_of bits l

-- how many pad characters follow them
unfoldable pub pads_after : List ℕ → ℕ
pads_after [] = 0
pads_after (x ∷ []) = 2
pads_after (x ∷ y ∷ []) = 1
pads_after (x ∷ y ∷ z ∷ l) = pads_after l

pub pads_few : (bytes : List ℕ) → pads_after bytes ≤ 2
unfolding pads_after
pads_few [] = lit≤ tt
pads_few (x ∷ []) = lit≤ tt
pads_few (x ∷ y ∷ []) = lit≤ tt
pads_few (x ∷ y ∷ z ∷ l) = pads_few l

-- together they are groups of four
pub pads_fill : (bits : ℕ) (bytes : List ℕ) → (length (sixes_of bits bytes) + pads_after bytes) % 4 ≡ 0
unfolding sixes_of pads_after
pads_fill bits [] = refl
pads_fill bits (x ∷ []) = refl
pads_fill bits (x ∷ y ∷ []) = refl
pads_fill bits (x ∷ y ∷ z ∷ l) = omega (arith, pads_fill bits l)

-- three bytes more do not change how many numbers the pad bits can be
range_step : (n : ℕ) → pad_bits_range (suc (suc (suc n))) ≡ pad_bits_range n
range_step n = let e : suc (suc (suc n)) % 3 ≡ n % 3 = omega arith in rw e

-- ---- bytes, taken apart and regrouped

-- the bits of each byte come together again; v is what follows them, and w, in another byte, what stands before
module _ (w x v : ℕ) where
  first_byte_lem : v < 16 → x / 4 * 4 + (x % 4 * 16 + v) / 16 ≡ x
  first_byte_lem h = omega arith

  second_byte : x < 256 → v < 4 → (w * 16 + x / 16) % 16 * 16 + (x % 16 * 4 + v) / 4 ≡ x
  second_byte h l = omega arith

  third_byte : x < 256 → (w * 4 + x / 64) % 4 * 64 + x % 64 ≡ x
  third_byte h = omega arith

pub record Apart (bits : ℕ) (bytes : List ℕ) : Type 0 where
  pub small : Below 64 (sixes_of bits bytes)
  pub back : regroup (sixes_of bits bytes) ≡ bytes
  pub left : pad_bits_of (sixes_of bits bytes) ≡ bits

pub apart : (bits : ℕ) (bytes : List ℕ) → Below 256 bytes → bits < pad_bits_range (length bytes) → Apart bits bytes
unfolding sixes_of regroup pad_bits_of
apart bits [] h r = record { small = tt; back = refl; left = omega arith }
apart bits (x ∷ []) h r = record { small = omega arith; back = rw (first_byte_lem 0 x bits r); left = omega arith }
apart bits (x ∷ y ∷ []) h r =
    record {
      small = omega arith;
      back = rw (first_byte_lem 0 x (y / 16) (omega arith), second_byte (x % 4) y bits (omega arith) r);
      left = omega arith;
    }
apart bits (x ∷ y ∷ z ∷ l) h r =
    let p = apart bits l h.1.1.1 (rw (range_step (length l)) at r) in
    record {
      small = (omega arith, (omega arith, (omega arith, (omega arith, p.small))));
      back =
          rw (
            first_byte_lem 0 x (y / 16) (omega arith),
            second_byte (x % 4) y (z / 64) (omega arith) (omega arith),
            third_byte (y % 16) z 0 (omega arith),
            p.back,
          );
      left = p.left;
    }

-- ---- numbers, regrouped and taken apart

-- the same of the bits of each number
module _ (w x v : ℕ) (h : x < 64) where
  first_number : (w * 4 + x / 16) / 4 ≡ w
  first_number = omega arith

  second_number : v ≡ x % 16 → (w * 4 + x / 16) % 4 * 16 + v ≡ x
  second_number e = omega arith

  third_number : v ≡ x % 4 → (w * 16 + x / 4) % 16 * 4 + v ≡ x
  third_number e = omega arith

  fourth_number : (w * 64 + x) % 64 ≡ x
  fourth_number = omega arith

pub record Regrouped (l : List ℕ) : Type 0 where
  pub are_bytes : Below 256 (regroup l)
  pub in_range : pad_bits_of l < pad_bits_range (length (regroup l))
  pub back : sixes_of (pad_bits_of l) (regroup l) ≡ l

pub regrouped : (l : List ℕ) → Below 64 l → (length l % 4 ≡ 1 → ⊥) → Regrouped l
unfolding sixes_of regroup pad_bits_of
regrouped [] h n = record { are_bytes = tt; in_range = lit< tt; back = refl }
regrouped (a ∷ []) h n = absurd (n refl)
regrouped (a ∷ b ∷ []) h n =
    record { are_bytes = omega arith; in_range = omega arith; back = rw (second_number a b (b % 16) (omega arith) refl, first_number a b 0 (omega arith)) }
regrouped (a ∷ b ∷ c ∷ []) h n =
    record {
      are_bytes = omega arith;
      in_range = omega arith;
      back =
          rw (
            first_number a b 0 (omega arith),
            second_number a b ((b % 16 * 16 + c / 4) / 16) (omega arith) (omega arith),
            third_number (b % 16) c (c % 4) (omega arith) refl,
          );
    }
regrouped (a ∷ b ∷ c ∷ d ∷ l) h n =
    let p = regrouped l h.1.1.1.1 (λ e. n (omega arith)) in
    record {
      are_bytes = (omega arith, (omega arith, (omega arith, p.are_bytes)));
      in_range = rw (range_step (length (regroup l))) p.in_range;
      back =
          rw (
            first_number a b 0 (omega arith),
            second_number a b ((b % 16 * 16 + c / 4) / 16) (omega arith) (omega arith),
            third_number (b % 16) c ((c % 4 * 64 + d) / 64) (omega arith) (omega arith),
            fourth_number (c % 4) d 0 (omega arith),
            p.back,
          );
    }
