-- For Rfc4648: the parts of a text. Characters of an alphabet and then pad characters are told apart as the decoder tells them, and what it takes is two
-- such parts. By induction on the list. Assumes nothing.
use mathlib.Core.Path.{◌≡◌, refl, ap, ap₂}
use mathlib.Core.Bool.{Bool, true, false, not}
use mathlib.Core.List.{List, [], ◌∷◌, ◌++◌, map}
use Prim.Native.Nat.{ℕ, zero, suc, ◌<◌}
use borrow.Author.Tests.{lt-ltb, eqb-true, not-true}
use lib.ListN.{length}
use lib.Seq.{drop-append_seam}
use Rattle.base.specs.Bytes.{each}
use Rattle.base.proofs.Tests.{and_left, and_right, by_cases}
use Rattle.base64_lenient.specs.Rfc4648.{Alphabet, character_of, pad, Padding, padded, unpadded, pads, encode_with}
use Rattle.base64_lenient.specs.Lenient.{is_line_break, without_breaks, before_pads, from_pads, is_pad, is_in, six_bits}
use Rattle.base64_lenient.proofs.Characters.{character, in_alphabet}
use Rattle.base64_lenient.proofs.Sixes.{Below, sixes_of, pads_after}

-- ---- a test of each byte

module _ (t : ℕ → Bool) where
  pub each_first : (b : ℕ) (l : List ℕ) → each t (b ∷ l) ≡ true → t b ≡ true
  each_first b l e = and_left (t b) (each t l) e

  pub each_rest : (b : ℕ) (l : List ℕ) → each t (b ∷ l) ≡ true → each t l ≡ true
  each_rest b l e = and_right (t b) (each t l) e

  pub each_append : (l r : List ℕ) → each t l ≡ true → each t r ≡ true → each t (l ++ r) ≡ true
  each_append [] r e f = f
  each_append (b ∷ l) r e f = rw (each_first b l e) (each_append l r (each_rest b l e) f)

  -- another test that passes where this one does
  pub each_other : (u : ℕ → Bool) → ((b : ℕ) → t b ≡ true → u b ≡ true) → (l : List ℕ) → each t l ≡ true → each u l ≡ true
  each_other u h [] e = refl
  each_other u h (b ∷ l) e = rw (h b (each_first b l e)) (each_other u h l (each_rest b l e))

  -- no byte passes
  abbrev pub lacks : List ℕ → Bool
  lacks l = each (λ b. not (t b)) l

  lacks_first : (b : ℕ) (l : List ℕ) → lacks (b ∷ l) ≡ true → t b ≡ false
  lacks_first b l e = not-true (t b) (and_left (not (t b)) (lacks l) e)

  lacks_rest : (b : ℕ) (l : List ℕ) → lacks (b ∷ l) ≡ true → lacks l ≡ true
  lacks_rest b l e = and_right (not (t b)) (lacks l) e

-- ---- line breaks and pad characters

pub no_breaks : (l : List ℕ) → lacks is_line_break l ≡ true → without_breaks l ≡ l
unfolding without_breaks
no_breaks [] e = refl
no_breaks (b ∷ l) e = rw (lacks_first is_line_break b l e, no_breaks l (lacks_rest is_line_break b l e))

-- every list is what stands before the first pad character and what stands from there on
pub two_parts : (l : List ℕ) → l ≡ before_pads l ++ from_pads l
unfolding before_pads
two_parts [] = refl
two_parts (b ∷ l) = by_cases (is_pad b) (λ e. rw e) (λ e. rw e (ap (λ (r : List ℕ). b ∷ r) (two_parts l)))

-- where these parts are known
pub front_is : (l q : List ℕ) → lacks is_pad l ≡ true → each is_pad q ≡ true → before_pads (l ++ q) ≡ l
unfolding before_pads
front_is [] [] e f = refl
front_is [] (b ∷ q) e f = rw (each_first is_pad b q f)
front_is (b ∷ l) q e f = rw (lacks_first is_pad b l e, front_is l q (lacks_rest is_pad b l e) f)

pub back_is : (l q : List ℕ) → lacks is_pad l ≡ true → each is_pad q ≡ true → from_pads (l ++ q) ≡ q
back_is l q e f = rw (front_is l q e f) (drop-append_seam l q)

pub pads_pad : (p : Padding) (n : ℕ) → each is_pad (pads p n) ≡ true
pads_pad unpadded n = refl
pads_pad padded zero = refl
pads_pad padded (suc n) = pads_pad padded n

pub pads_length : (n : ℕ) → length (pads padded n) ≡ n
pads_length zero = refl
pads_length (suc n) = ap suc (pads_length n)

pub all_pads : (q : List ℕ) → each is_pad q ≡ true → q ≡ pads padded (length q)
all_pads [] e = refl
all_pads (b ∷ q) e = ap₂ (λ (x : ℕ) (l : List ℕ). x ∷ l) (eqb-true b pad (each_first is_pad b q e)) (all_pads q (each_rest is_pad b q e))

-- ---- the characters of an alphabet

module _ (a : Alphabet) where
  -- those of numbers below 64
  abbrev pub spell : List ℕ → List ℕ
  spell l = map (character_of a) l

  each_spelled : (t : ℕ → Bool) → ((v : ℕ) → v < 64 → t (character_of a v) ≡ true) → (l : List ℕ) → Below 64 l → each t (spell l) ≡ true
  each_spelled t h [] b = refl
  each_spelled t h (v ∷ l) b = rw (h v b.0) (each_spelled t h l b.1)

  pub spelled_in : (l : List ℕ) → Below 64 l → each (is_in a) (spell l) ≡ true
  spelled_in = each_spelled (is_in a) (λ v h. rw (character a v h).has (lt-ltb v 64 h))

  pub spelled_no_break : (l : List ℕ) → Below 64 l → lacks is_line_break (spell l) ≡ true
  spelled_no_break = each_spelled (λ b. not (is_line_break b)) (λ v h. rw (character a v h).no_break)

  pub spelled_no_pad : (l : List ℕ) → Below 64 l → lacks is_pad (spell l) ≡ true
  spelled_no_pad = each_spelled (λ b. not (is_pad b)) (λ v h. rw (character a v h).no_pad)

  pub spelled_sixes : (l : List ℕ) → Below 64 l → map six_bits (spell l) ≡ l
  spelled_sixes [] b = refl
  spelled_sixes (v ∷ l) b = rw ((character a v b.0).six, spelled_sixes l b.1)

  -- of characters that the alphabet has
  pub sixes_below : (l : List ℕ) → each (is_in a) l ≡ true → Below 64 (map six_bits l)
  sixes_below [] e = tt
  sixes_below (c ∷ l) e = ((in_alphabet a c (each_first (is_in a) c l e)).0, sixes_below l (each_rest (is_in a) c l e))

  pub sixes_spelled : (l : List ℕ) → each (is_in a) l ≡ true → spell (map six_bits l) ≡ l
  sixes_spelled [] e = refl
  sixes_spelled (c ∷ l) e = rw ((in_alphabet a c (each_first (is_in a) c l e)).1, sixes_spelled l (each_rest (is_in a) c l e))

  -- a text is characters and then pad characters
  pub text_is : (p : Padding) (bits : ℕ) (bytes : List ℕ) → encode_with a p bits bytes ≡ spell (sixes_of bits bytes) ++ pads p (pads_after bytes)
  unfolding encode_with sixes_of pads_after
  text_is unpadded bits [] = refl
  text_is padded bits [] = refl
  text_is p bits (x ∷ []) = refl
  text_is p bits (x ∷ y ∷ []) = refl
  text_is p bits (x ∷ y ∷ z ∷ l) = rw (text_is p bits l)
