-- The round trip, a result of its own: a code point that is encoded and decoded again is the same. Its octets are a character, and their free bits are the
-- number. By the ranges of the table of RFC 3629, section 3. Assumes nothing.
use mathlib.Core.Path.{◌≡◌, refl}
use mathlib.Core.Bool.{true, false, not}
use mathlib.Core.List.{List, [], ◌∷◌, ◌++◌, Memᴰ}
use Prim.Native.Nat.{ℕ, zero, suc, ◌+◌, ◌*◌, ◌/◌, ◌%◌, ◌≤◌, ◌<◌}
use native.Mathlib.Nat.{le_of_suc-le-suc, not-suc-le-zero}
use native.Mathlib.Omega.{arith}
use borrow.Author.Tests.{ltb-true, ltb-false, leb-true, leb-false, le-leb, ne_eqb, not-true}
use lib.Dec.{T, ltb, leb, ltb→lt}
use lib.ListN.{length, get_or}
use Rattle.std.specs.Prelude.{Some}
use Rattle.base.specs.Bytes.{within}
use Rattle.base.proofs.Tests.{and_left, and_right, by_cases, pick_case}
use Rattle.utf8.specs.Grammar.{Range, range, tail, utf8_char, Matches, done, next, Char, char, char_size}
use Rattle.utf8.specs.Character.{code_bits, code_of, is_scalar, octets_of, encoded, encode_of}
use Rattle.utf8.specs.Helpers.{decode_of}
use Rattle.utf8.proofs.Chars.{size_of_char}

-- a code point of UTF-8: at most 0x10FFFF and no surrogate
scalar_high : (r : ℕ) → is_scalar r ≡ true → r ≤ 0x10FFFF
unfolding is_scalar
scalar_high r e = leb-true r 0x10FFFF (and_left (leb r 0x10FFFF) (not (within 0xD800 0xDFFF r)) e)

no_surrogate : (r : ℕ) → is_scalar r ≡ true → within 0xD800 0xDFFF r ≡ false
unfolding is_scalar
no_surrogate r e = not-true (within 0xD800 0xDFFF r) (and_right (leb r 0x10FFFF) (not (within 0xD800 0xDFFF r)) e)

-- the k-th alternative of the grammar
member : (rss : List (List Range)) (k : ℕ) → k < length rss → Memᴰ (get_or rss k []) rss
member [] k h = absurd (not-suc-le-zero h)
member (rs ∷ rss) zero h = Memᴰ.head refl
member (rs ∷ rss) (suc k) h = Memᴰ.tail (member rss k (le_of_suc-le-suc h))

of_row : (k : ℕ) (c : List ℕ) → T (ltb k 9) → Matches (get_or utf8_char k []) c → Char c
unfolding utf8_char
of_row k c h m = char (member utf8_char k (ltb→lt k 9 h)) m

octet : (lo hi b : ℕ) {rs : List Range} {s : List ℕ} → lo ≤ b → b ≤ hi → Matches rs s → Matches (range lo hi ∷ rs) (b ∷ s)
octet lo hi b l h m = next l h m

-- the six bits of a UTF8-tail
six : (x : ℕ) {rs : List Range} {s : List ℕ} → Matches rs s → Matches (tail ∷ rs) ((0x80 + x % 64) ∷ s)
six x m = octet 0x80 0xBF (0x80 + x % 64) (omega arith) (omega arith) m

module _ (r : ℕ) where
  one : r < 0x80 → Char (r ∷ [])
  unfolding utf8_char
  one h = of_row 0 _ tt (octet 0 0x7F r (omega arith) (omega arith) done)

  two : 0x80 ≤ r → r < 0x800 → Char ((0xC0 + r / 64) ∷ (0x80 + r % 64) ∷ [])
  unfolding utf8_char
  two l h = of_row 1 _ tt (octet 0xC2 0xDF (0xC0 + r / 64) (omega arith) (omega arith) (six r done))

  three : 0x800 ≤ r → r < 0x10000 → within 0xD800 0xDFFF r ≡ false → Char ((0xE0 + r / 4096) ∷ (0x80 + r / 64 % 64) ∷ (0x80 + r % 64) ∷ [])
  unfolding utf8_char
  three l h n =
      by_cases (ltb r 0x1000) (λ u. let k = ltb-true r 0x1000 u in
      of_row 2 _ tt (octet 0xE0 0xE0 (0xE0 + r / 4096) (omega arith) (omega arith)
      (octet 0xA0 0xBF (0x80 + r / 64 % 64) (omega arith) (omega arith) (six r done))))
      (λ u. let j = ltb-false r 0x1000 u in by_cases (ltb r 0xD000) (λ v. let k = ltb-true r 0xD000 v in
      of_row 3 _ tt (octet 0xE1 0xEC (0xE0 + r / 4096) (omega arith) (omega arith) (six (r / 64) (six r done))))
      (λ v. let k = ltb-false r 0xD000 v in by_cases (ltb r 0xD800) (λ w. let q = ltb-true r 0xD800 w in
      of_row 4 _ tt (octet 0xED 0xED (0xE0 + r / 4096) (omega arith) (omega arith)
      (octet 0x80 0x9F (0x80 + r / 64 % 64) (omega arith) (omega arith) (six r done))))
      (λ w. let q : 0xE000 ≤ r = leb-false r 0xDFFF (rw (le-leb 0xD800 r (ltb-false r 0xD800 w)) at n) in
      of_row 5 _ tt (octet 0xEE 0xEF (0xE0 + r / 4096) (omega arith) (omega arith) (six (r / 64) (six r done))))))

  four : 0x10000 ≤ r → r ≤ 0x10FFFF → Char ((0xF0 + r / 262144) ∷ (0x80 + r / 4096 % 64) ∷ (0x80 + r / 64 % 64) ∷ (0x80 + r % 64) ∷ [])
  unfolding utf8_char
  four l h =
      by_cases (ltb r 0x40000) (λ u. let k = ltb-true r 0x40000 u in
      of_row 6 _ tt (octet 0xF0 0xF0 (0xF0 + r / 262144) (omega arith) (omega arith)
      (octet 0x90 0xBF (0x80 + r / 4096 % 64) (omega arith) (omega arith) (six (r / 64) (six r done)))))
      (λ u. let j = ltb-false r 0x40000 u in by_cases (ltb r 0x100000) (λ v. let k = ltb-true r 0x100000 v in
      of_row 7 _ tt (octet 0xF1 0xF3 (0xF0 + r / 262144) (omega arith) (omega arith) (six (r / 4096) (six (r / 64) (six r done)))))
      (λ v. let k = ltb-false r 0x100000 v in
      of_row 8 _ tt (octet 0xF4 0xF4 (0xF0 + r / 262144) (omega arith) (omega arith)
      (octet 0x80 0x8F (0x80 + r / 4096 % 64) (omega arith) (omega arith) (six (r / 64) (six r done))))))

-- the free bits of four octets, six at a time
low_six : (x : ℕ) → (0x80 + x % 64) % 64 ≡ x % 64
low_six x = omega arith

joined : (r a b c x y z : ℕ) → a * 64 + x ≡ r → b * 64 + y ≡ a → c * 64 + z ≡ b → c * 262144 + z * 4096 + y * 64 + x ≡ r
joined r a b c x y z p q u = omega arith

four_bits : (r : ℕ) → r ≤ 0x10FFFF
    → (0xF0 + r / 262144) % 8 * 262144 + (0x80 + r / 4096 % 64) % 64 * 4096 + (0x80 + r / 64 % 64) % 64 * 64 + (0x80 + r % 64) % 64 ≡ r
four_bits r h =
    let e : (0xF0 + r / 262144) % 8 ≡ r / 262144 = omega arith in
    rw (e, low_six (r / 4096), low_six (r / 64), low_six r)
    (joined r (r / 64) (r / 4096) (r / 262144) (r % 64) (r / 64 % 64) (r / 4096 % 64) (omega arith) (omega arith) (omega arith))

-- the octets c are a character, and their free bits the number r
record Encodes (r : ℕ) (c : List ℕ) : Type 0 where
  is_char : Char c
  bits : (t : List ℕ) → code_bits (length c) (c ++ t) ≡ r

encodes : (r : ℕ) → is_scalar r ≡ true → Encodes r (encode_of r)
unfolding encode_of code_bits
encodes r e =
    let P : List ℕ → Type 0 = Encodes r in
    pick_case P (ltb r 0x80) (λ u. record { is_char = one r (ltb-true r 0x80 u); bits = λ t. refl })
    (λ u. pick_case P (ltb r 0x800)
    (λ v. let h = ltb-true r 0x800 v in record { is_char = two r (ltb-false r 0x80 u) h; bits = λ t. omega arith })
    (λ v. pick_case P (ltb r 0x10000)
    (λ w. let h = ltb-true r 0x10000 w in record { is_char = three r (ltb-false r 0x800 v) h (no_surrogate r e); bits = λ t. omega arith })
    (λ w. let h = scalar_high r e in record { is_char = four r (ltb-false r 0x10000 w) h; bits = λ t. four_bits r h })))

-- the octets of a code point are a character
encode_char : (r : ℕ) → is_scalar r ≡ true → Char (encode_of r)
encode_char r e = (encodes r e).is_char

encode_size : (r : ℕ) (t : List ℕ) → is_scalar r ≡ true → char_size (encode_of r ++ t) ≡ length (encode_of r)
encode_size r t e = size_of_char t (encode_char r e)

-- every number has 1 to 4 octets
pub encode_length : (r : ℕ) → (1 ≤ length (encode_of r)) × (length (encode_of r) ≤ 4)
unfolding encode_of
encode_length r =
    let P : List ℕ → Type 0 = λ c. (1 ≤ length c) × (length c ≤ 4) in
    pick_case P (ltb r 0x80) (λ u. omega arith)
    (λ u. pick_case P (ltb r 0x800) (λ v. omega arith) (λ v. pick_case P (ltb r 0x10000) (λ w. omega arith) (λ w. omega arith)))

-- at most four octets are those that an `Encoded` of them has; so the octets of a code point are what `encode` answers with
pub octets_encoded : (l : List ℕ) → length l ≤ 4 → octets_of (encoded l) ≡ l
octets_encoded [] h = refl
octets_encoded (a ∷ []) h = refl
octets_encoded (a ∷ b ∷ []) h = refl
octets_encoded (a ∷ b ∷ c ∷ []) h = refl
octets_encoded (a ∷ b ∷ c ∷ d ∷ []) h = refl
octets_encoded (a ∷ b ∷ c ∷ d ∷ e ∷ l) h = absurd (omega arith)

pub encode_octets : (r : ℕ) → octets_of (encoded (encode_of r)) ≡ encode_of r
encode_octets r = octets_encoded (encode_of r) (encode_length r).1

-- decoded again they give the code point
pub decode_encode : (r : ℕ) (t : List ℕ) → is_scalar r ≡ true
    → decode_of (encode_of r ++ t) ≡ Some (record { code = r; size = length (encode_of r) })
unfolding decode_of code_of
decode_encode r t e = rw (encode_size r t e, (encodes r e).bits t, ne_eqb (length (encode_of r)) 0 (λ z. omega (arith, (encode_length r).0)))
