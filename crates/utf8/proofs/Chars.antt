-- For most files here: the reader's `char_size` and the rule UTF8-char say the same, and what follows for the octets of a character. From Alternatives,
-- and by tests of the table. Assumes nothing.
use mathlib.Core.Path.{◌≡◌, refl, sym, ◌∙◌}
use mathlib.Core.Bool.{Bool, true, false, ◌&&◌}
use mathlib.Core.List.{List, [], ◌∷◌, ◌++◌}
use Prim.Native.Nat.{ℕ, zero, suc, ◌≤◌, ◌<◌, zero-le}
use native.Mathlib.Nat.{le_of_suc-le-suc, not-suc-le-zero}
use native.Mathlib.Omega.{arith}
use borrow.Author.Tests.{leb-true, ltb-true, eq-eqb}
use lib.Dec.{leb, ltb, eqb, lit<}
use lib.ListN.{length, take}
use lib.Seq.{get_or-take, length-take-le}
use Rattle.base.specs.Choice.{pick}
use Rattle.base.specs.Bytes.{byte}
use Rattle.base.proofs.Tests.{and_left, and_right, by_cases, true_false, inside, over, under}
use Rattle.utf8.specs.Grammar.{Range, utf8_char, Matches, done, next, Char, char, char_size}
use Rattle.utf8.specs.Check.{is_tail}
use Rattle.utf8.proofs.Alternatives.{matches_length, matches_begins, begins_matches, begins_length, Found, first_found, found_first, every_at}

found : (s : List ℕ) (n : ℕ) → char_size s ≡ suc n → Found utf8_char s (suc n)
unfolding char_size
found s n e = first_found utf8_char s n e

-- where the reader finds a character, it is one
pub char_of_size : (s : List ℕ) (n : ℕ) → char_size s ≡ suc n → Char (take (suc n) s)
char_of_size s n e =
    let f = found s n e in
    char f.among (rw f.size at (begins_matches f.rs s f.fits))

-- and it is within the list
pub size_le : (s : List ℕ) → char_size s ≤ length s
size_le s = go (char_size s) refl
  where
    go : (n : ℕ) → char_size s ≡ n → n ≤ length s
    go zero e = zero-le
    go (suc n) e = let f = found s n e in omega (arith, begins_length f.rs s f.fits, f.size)

-- a character is found wherever it stands at the front
pub size_of_char : {c : List ℕ} (t : List ℕ) → Char c → char_size (c ++ t) ≡ length c
unfolding char_size utf8_char
size_of_char {c} t (char {rs = rs} a m) =
    found_first 0 utf8_char {rs = rs} (c ++ t) refl a (matches_begins t m) ∙ sym (matches_length m)

-- each range is within UTF8-tail
abbrev tails : List Range → Bool
tails [] = true
tails (r ∷ rs) = (leb 0x80 r.lo && leb r.hi 0xBF) && tails rs

-- an alternative: an ASCII octet, or one above UTF8-tail and then UTF8-tails
abbrev formed : List Range → Bool
formed [] = false
formed (r ∷ rs) = pick (eqb (length rs) 0) (ltb r.hi 0x80) (ltb 0xBF r.lo) && tails rs

tails_at : {rs : List Range} {c : List ℕ} (m : ℕ) → tails rs ≡ true → Matches rs c → m < length c → is_tail (byte c m) ≡ true
unfolding is_tail
tails_at m e done h = absurd (not-suc-le-zero h)
tails_at zero e (next {r = r} {rs = rs} {b = b} l u q) h =
    let w = and_left (leb 0x80 r.lo && leb r.hi 0xBF) (tails rs) e in
    let x = leb-true 0x80 r.lo (and_left (leb 0x80 r.lo) (leb r.hi 0xBF) w) in
    let y = leb-true r.hi 0xBF (and_right (leb 0x80 r.lo) (leb r.hi 0xBF) w) in
    inside 0x80 0xBF b (omega arith) (omega arith)
tails_at (suc m) e (next {r = r} {rs = rs} l u q) h =
    tails_at m (and_right (leb 0x80 r.lo && leb r.hi 0xBF) (tails rs) e) q (le_of_suc-le-suc h)

-- the octets of a character: the first is no UTF8-tail and each other one is; a single one is ASCII
pub record CharShape (c : List ℕ) : Type 0 where
  pub some : 0 < length c
  pub lead : is_tail (byte c 0) ≡ false
  pub tailed : (m : ℕ) → 0 < m → m < length c → is_tail (byte c m) ≡ true
  pub single : length c ≡ 1 → byte c 0 < 0x80

-- the first octet
module _ (r : Range) (n b : ℕ) (e : pick (eqb n 0) (ltb r.hi 0x80) (ltb 0xBF r.lo) ≡ true) (l : r.lo ≤ b) (h : b ≤ r.hi) where
  lead_octet : is_tail b ≡ false
  unfolding is_tail
  lead_octet =
      by_cases (eqb n 0) (λ z. under 0x80 0xBF b (omega (arith, ltb-true r.hi 0x80 (rw z at e))))
      (λ z. over 0x80 0xBF b (omega (arith, ltb-true 0xBF r.lo (rw z at e))))

  single_octet : n ≡ 0 → b < 0x80
  single_octet z =
      let q : ltb r.hi 0x80 ≡ true = rw (eq-eqb n 0 z) at e in
      omega (arith, ltb-true r.hi 0x80 q)

matched : {rs : List Range} {c : List ℕ} → formed rs ≡ true → Matches rs c → CharShape c
matched e done = true_false false e refl
matched e (next {r = r} {rs = rs} {b = b} {s = s} l u q) =
    let x : Bool = pick (eqb (length rs) 0) (ltb r.hi 0x80) (ltb 0xBF r.lo) in
    let g = and_left x (tails rs) e in
    record {
      some = omega arith;
      lead = lead_octet r (length rs) b g l u;
      tailed = after (and_right x (tails rs) e);
      single = λ z. single_octet r (length rs) b g l u (omega (arith, matches_length q));
    }
  where
    after : tails rs ≡ true → (m : ℕ) → 0 < m → m < suc (length s) → is_tail (byte (b ∷ s) m) ≡ true
    after t zero p h = absurd (not-suc-le-zero p)
    after t (suc m) p h = tails_at m t q (le_of_suc-le-suc h)

pub char_shape : {c : List ℕ} → Char c → CharShape c
unfolding utf8_char
char_shape (char a m) = matched (every_at formed utf8_char refl a) m

-- an ASCII byte is a whole character
pub ascii_size : (a : ℕ) (s : List ℕ) → a < 0x80 → char_size (a ∷ s) ≡ 1
unfolding char_size
ascii_size a s h = rw (inside 0 0x7F a (omega arith) (omega arith))

-- a character of one octet is ASCII
pub size_single : (s : List ℕ) → char_size s ≡ 1 → byte s 0 < 0x80
size_single s e =
    let l = length-take-le 1 s (omega (arith, size_le s)) in
    rw (get_or-take 1 s 0 0 (lit< tt)) at ((char_shape (char_of_size s 0 e)).single l)
