-- For `put_little`, `get_little` and the round trips: numbers as bytes, lowest first. How long they are, how large, and that each way undoes the
-- other. By induction on the width or the list. Assumes nothing.
use mathlib.Core.Path.{◌≡◌, refl, ap}
use mathlib.Core.List.{List, [], ◌∷◌}
use Prim.Native.Nat.{ℕ, zero, suc, ◌+◌, ◌*◌, ◌/◌, ◌%◌, ◌^◌, ◌≤◌, ◌<◌, ◌-◌}
use native.Mathlib.Nat.{pow-succ', pow-zero, pow-le-pow_right}
use native.Mathlib.Omega.{arith}
use lib.ListN.{length, get_or, take, drop, set}
use lib.Seq.{sets, drop-cons, get_or-drop}
use Rattle.base.specs.Bytes.{AreBytes}
use Rattle.token_file.specs.Format.{little, unlittle, number_at}

pub bytes_drop : (n : ℕ) (l : List ℕ) → AreBytes l → AreBytes (drop n l)
bytes_drop n l h k = rw get_or-drop (h (n + k))

pub bytes_take : (n : ℕ) (l : List ℕ) → AreBytes l → AreBytes (take n l)
bytes_take zero l h k = omega arith
bytes_take (suc n) [] h k = omega arith
bytes_take (suc n) (b ∷ l) h zero = h 0
bytes_take (suc n) (b ∷ l) h (suc k) = bytes_take n l (λ j. h (suc j)) k

pub length_little : (w n : ℕ) → length (little w n) ≡ w
unfolding little
length_little zero n = refl
length_little (suc w) n = ap suc (length_little w (n / 256))

pub unlittle_little : (w n : ℕ) → n < 256 ^ w → unlittle (little w n) ≡ n
unfolding little unlittle
unlittle_little zero n h = omega (arith, pow-zero 256)
unlittle_little (suc w) n h = let e = unlittle_little w (n / 256) (omega (arith, pow-succ' 256 w)) in omega arith

pub unlittle_lt : (l : List ℕ) → AreBytes l → unlittle l < 256 ^ length l
unfolding unlittle
unlittle_lt [] h = omega (arith, pow-zero 256)
unlittle_lt (b ∷ l) h = omega (arith, h 0, unlittle_lt l (λ k. h (suc k)), pow-succ' 256 (length l))

pub little_unlittle : (l : List ℕ) → AreBytes l → little (length l) (unlittle l) ≡ l
unfolding little unlittle
little_unlittle [] h = refl
little_unlittle (b ∷ l) h =
    let b₁ : b < 256 = h 0 in
    let e₁ : (b + 256 * unlittle l) % 256 ≡ b = omega arith in
    let e₂ : (b + 256 * unlittle l) / 256 ≡ unlittle l = omega arith in
    rw (e₁, e₂, little_unlittle l (λ k. h (suc k)))

-- a number of at most seven bytes fits 63 bits
pub below_63 : {w n : ℕ} → w ≤ 7 → n < 256 ^ w → n < 0x8000000000000000
below_63 h s = omega (arith, pow-le-pow_right {n = 256} (omega arith) {j = 7} h)

-- ---- the loop that writes a number: the bytes that are left, stored from here on, make the whole

module _ (out : List ℕ) (end i rest : ℕ) where
  abbrev pub putting : List ℕ
  putting = sets out i (little (end - i) rest)

pub put_turn : (out : List ℕ) (end i rest : ℕ) → i < end → putting (set out i (rest % 256)) end (i + 1) (rest / 256) ≡ putting out end i rest
unfolding little
put_turn out end i rest h =
    let e₁ : end - i ≡ suc (end - (i + 1)) = omega arith in
    let e₂ : i + 1 ≡ suc i = omega arith in
    rw (e₁, e₂)

pub put_end : (out : List ℕ) (end i rest : ℕ) → end ≤ i → putting out end i rest ≡ out
unfolding little
put_end out end i rest h = let e : end - i ≡ 0 = omega arith in rw e

-- ---- the loop that reads a number: from the highest byte down

-- the number of the bytes from i on, and its bound
pub record Getting (file : List ℕ) (at end i n : ℕ) : Type 0 where
  pub inside : at ≤ i
  pub value : n ≡ number_at file i (end - i)
  pub small : n < 256 ^ (end - i)

pub number_cons : (l : List ℕ) (i w : ℕ) → i < length l → number_at l i (suc w) ≡ get_or l i 0 + 256 * number_at l (suc i) w
unfolding unlittle
number_cons l i w h = rw (drop-cons l i 0 h)

pub get_start : (file : List ℕ) (at end : ℕ) → at ≤ end → Getting file at end end 0
unfolding unlittle
get_start file at end h =
    let e : end - end ≡ 0 = omega arith in
    record { inside = h; value = rw e; small = rw e (omega (arith, pow-zero 256)) }

module _ {file : List ℕ} {at end i n : ℕ} (w : Getting file at end i n) where
  -- the next number fits as long as there are at most eight bytes
  pub get_fits : at < i → end ≤ at + 8 → n * 256 + 255 < 2 ^ 64
  get_fits h m =
      let s = w.small in
      let p : 256 ^ (end - i) ≤ 256 ^ 7 = pow-le-pow_right (omega arith) {j = 7} (omega arith) in
      omega arith

  pub get_turn : at < i → i ≤ end → end ≤ length file → (b : ℕ) → b ≡ get_or file (i - 1) 0 → b < 256 → Getting file at end (i - 1) (n * 256 + b)
  get_turn h le r b eb hb =
      let v = w.value in
      let s = w.small in
      let e₁ : end - (i - 1) ≡ suc (end - i) = omega arith in
      let e₂ : suc (i - 1) ≡ i = omega arith in
      let q : number_at file (i - 1) (suc (end - i)) ≡ get_or file (i - 1) 0 + 256 * number_at file i (end - i) =
      rw e₂ at (number_cons file (i - 1) (end - i) (omega arith)) in
      record {
        inside = omega arith;
        value = rw e₁ (omega (arith, q));
        small = rw e₁ (omega (arith, pow-succ' 256 (end - i)));
      }
