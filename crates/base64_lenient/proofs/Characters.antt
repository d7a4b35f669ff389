-- For Texts, Rfc4648, Sights and Values: what is known of the characters of the two alphabets. Each of them is the character of a value below 64, by
-- induction on the
-- list of characters; and what holds of the characters of all values is one test that antt computes. Assumes nothing.
use mathlib.Core.Path.{◌≡◌, refl}
use mathlib.Core.Bool.{Bool, true, false, not, ◌&&◌}
use mathlib.Core.List.{List, [], ◌∷◌}
use Prim.Native.Nat.{ℕ, ◌<◌}
use native.Mathlib.Nat.{le_of_suc-le-suc, not-suc-le-zero}
use borrow.Author.Tests.{ltb-true, eqb-true, not-true}
use lib.Dec.{T, eqb, ltb}
use lib.ListN.{length, get_or}
use lib.Ieee.Bits.{is_true}
use Rattle.base.proofs.Tables.{all, all_below}
use Rattle.base.proofs.Tests.{and_left, and_right, by_cases}
use Rattle.base64_lenient.specs.Rfc4648.{Alphabet, standard, url_safe, characters_of, character_of}
use Rattle.base64_lenient.specs.Lenient.{is_line_break, is_pad, index_in, value_in, is_in, six_bits}

-- what stands at the place of a number in a list is the number
at_index : (l : List ℕ) (c : ℕ) → index_in l c < length l → get_or l (index_in l c) 0 ≡ c
at_index [] c h = absurd (not-suc-le-zero h)
at_index (x ∷ l) c h =
    by_cases (eqb x c) (λ e. rw e (eqb-true x c e)) (λ e. rw e (at_index l c (le_of_suc-le-suc (rw e at h))))

-- a character of an alphabet, by its value; both alphabets keep clear of line breaks and of the pad character
pub record Character (a : Alphabet) (v c : ℕ) : Type 0 where
  pub has : value_in a c ≡ v
  pub six : six_bits c ≡ v
  pub no_break : is_line_break c ≡ false
  pub no_pad : is_pad c ≡ false
  pub ascii : c < 0x80

-- the test of it
abbrev is_character : Alphabet → ℕ → ℕ → Bool
is_character a v c = eqb (value_in a c) v && (eqb (six_bits c) v && (not (is_line_break c) && (not (is_pad c) && ltb c 0x80)))

all_are : (a : Alphabet) → T (all (λ (v : ℕ). is_character a v (character_of a v)) 64)
unfolding value_in
all_are standard = tt
all_are url_safe = tt

pub character : (a : Alphabet) (v : ℕ) → v < 64 → Character a v (character_of a v)
character a v h =
    let c = character_of a v in
    let t : is_character a v c ≡ true = is_true (is_character a v c) (all_below (λ (w : ℕ). is_character a w (character_of a w)) 64 (all_are a) v h) in
    record {
      has = eqb-true (value_in a c) v (search and_left);
      six = eqb-true (six_bits c) v (search (and_left, and_right));
      no_break = not-true (is_line_break c) (search (and_left, and_right));
      no_pad = not-true (is_pad c) (search (and_left, and_right));
      ascii = ltb-true c 0x80 (search (and_left, and_right));
    }

-- a byte that is of an alphabet is the character of its value
pub in_alphabet : (a : Alphabet) (c : ℕ) → is_in a c ≡ true → (six_bits c < 64) × (character_of a (six_bits c) ≡ c)
unfolding value_in
in_alphabet a c e =
    let h : value_in a c < 64 = ltb-true (value_in a c) 64 e in
    let s : character_of a (value_in a c) ≡ c = at_index (characters_of a) c (rw (size a) h) in
    let q : six_bits c ≡ value_in a c = rw s at (character a (value_in a c) h).six in
    rw q (h, s)
  where
    size : (b : Alphabet) → length (characters_of b) ≡ 64
    size standard = refl
    size url_safe = refl

pub in_character : (a : Alphabet) (c : ℕ) → is_in a c ≡ true → Character a (six_bits c) c
in_character a c e = let p = in_alphabet a c e in rw p.1 at (character a (six_bits c) p.0)
