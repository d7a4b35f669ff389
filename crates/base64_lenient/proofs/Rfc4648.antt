-- For readers, and for `judge` and `decode_bytes`: the decoder takes the texts of RFC 4648, and besides them what the list of leniencies has. By Texts,
-- which tells the parts of a text apart, and Sixes, by which the bytes come back. Assumes nothing.
use mathlib.Core.Path.{◌≡◌, refl, ap, sym, ◌∙◌}
use mathlib.Core.Bool.{Bool, true, false, not, ◌&&◌, ◌||◌, or-true}
use mathlib.Core.List.{List, [], ◌∷◌, map}
use Prim.Native.Nat.{ℕ, zero, suc, ◌+◌, ◌%◌, ◌≤◌, ◌<◌}
use Prim.Native.Char.{code}
use native.Mathlib.Omega.{arith}
use borrow.Author.Tests.{eqb-true, eqb-false, ne_eqb, ltb-true, lt-ltb, not-true, not-false}
use lib.Dec.{eqb, ltb, lit<}
use lib.ListN.{length, length-append, length-map}
use Rattle.base.specs.Bytes.{each, AreBytes}
use Rattle.base.proofs.Tests.{and_left, and_right, or_case, by_cases, zero_one, pick_second, pick_case}
use Rattle.utf8.specs.Grammar.{Octets, none}
use Rattle.utf8.proofs.Concatenations.{ascii_octets, octets_append}
use Rattle.base64_lenient.specs.Rfc4648.{Alphabet, standard, url_safe, character_of, pad, Padding, padded, unpadded, pads, encode_with, encode, pad_bits_range}
use Rattle.base64_lenient.specs.Lenient.{is_line_break, without_breaks, before_pads, from_pads, is_pad, is_in, six_bits, in_one_alphabet, right_pads, decodes, decoded}
use Rattle.base64_lenient.specs.Leniencies.{Leniency, line_breaks, missing_pads, other_alphabet, pad_bits, pad_bits_of, uses, used_of, used, DecodesTo, TextOf}
use Rattle.base64_lenient.specs.Leniencies.{DecodesRfc4648}
use Rattle.base64_lenient.proofs.Characters.{in_character}
use Rattle.base64_lenient.proofs.Sixes.{bytes_below, below_bytes, sixes_of, pads_after, pads_few, pads_fill, Apart, apart, Regrouped, regrouped}
use Rattle.base64_lenient.proofs.Texts.{each_first, each_rest, each_append, each_other, lacks, no_breaks, two_parts, front_is, back_is, pads_pad, pads_length}
use Rattle.base64_lenient.proofs.Texts.{all_pads, spell, spelled_in, spelled_no_break, spelled_no_pad, spelled_sixes, sixes_below, sixes_spelled, text_is}

-- ---- how many pad characters are right

-- those of a text, m being as many as fill the last group
right_count : (p : Padding) (n m : ℕ) → (n + m) % 4 ≡ 0 → m ≤ 2 → right_pads n (length (pads p m)) ≡ true
right_count unpadded n m e h = rw (ne_eqb (n % 4) 1 (λ q. omega arith))
right_count padded n zero e h = let q : n % 4 ≡ 0 = omega arith in rw q
right_count padded n (suc zero) e h = let q : n % 4 ≡ 3 = omega arith in rw q
right_count padded n (suc (suc zero)) e h = let q : n % 4 ≡ 2 = omega arith in rw q
right_count padded n (suc (suc (suc m))) e h = absurd (omega arith)

-- the three cases in which k are right after n characters
right_cases : {X : Type 0} (n k : ℕ) → right_pads n k ≡ true → (k ≡ 0 → (n % 4 ≡ 1 → ⊥) → X) → (k ≡ 1 → n % 4 ≡ 3 → X) → (k ≡ 2 → n % 4 ≡ 2 → X) → X
right_cases n k e f g h =
    let r = n % 4 in
    or_case (eqb k 0 && not (eqb r 1)) ((eqb k 1 && eqb r 3) || (eqb k 2 && eqb r 2)) e
    (λ z. f (eqb-true k 0 (and_left (eqb k 0) (not (eqb r 1)) z)) (eqb-false r 1 (not-true (eqb r 1) (and_right (eqb k 0) (not (eqb r 1)) z))))
    (λ z. or_case (eqb k 1 && eqb r 3) (eqb k 2 && eqb r 2) z
    (λ y. g (eqb-true k 1 (and_left (eqb k 1) (eqb r 3) y)) (eqb-true r 3 (and_right (eqb k 1) (eqb r 3) y)))
    (λ y. h (eqb-true k 2 (and_left (eqb k 2) (eqb r 2) y)) (eqb-true r 2 (and_right (eqb k 2) (eqb r 2) y))))

-- no single character is left over
pub no_single : (n k : ℕ) → right_pads n k ≡ true → n % 4 ≡ 1 → ⊥
no_single n k e = right_cases n k e (λ z o. o) (λ z q o. omega arith) (λ z q o. omega arith)

-- there are none, or those of a padded text
none_or_all : {X : Type 0} (n k m : ℕ) → right_pads n k ≡ true → (n + m) % 4 ≡ 0 → m ≤ 2 → (k ≡ 0 → X) → (k ≡ m → X) → X
none_or_all n k m e q h f g = right_cases n k e (λ z o. f z) (λ z r. g (omega arith)) (λ z r. g (omega arith))

-- ---- a text

one_alphabet : (a : Alphabet) (l : List ℕ) → each (is_in a) l ≡ true → in_one_alphabet l ≡ true
one_alphabet standard l e = rw e
one_alphabet url_safe l e = rw e (or-true (each (is_in standard) l))

-- its parts, and what a run is that is this text but for line breaks
module _ (a : Alphabet) (p : Padding) (bits : ℕ) (bytes : List ℕ) (b : AreBytes bytes) (r : bits < pad_bits_range (length bytes)) where
  abbrev text : List ℕ
  text = encode_with a p bits bytes

  abbrev sixes : List ℕ
  sixes = sixes_of bits bytes

  abbrev padding : List ℕ
  padding = pads p (pads_after bytes)

  parted : Apart bits bytes
  parted = apart bits bytes (bytes_below bytes b) r

  front : before_pads text ≡ spell a sixes
  front = rw (text_is a p bits bytes) (front_is (spell a sixes) padding (spelled_no_pad a sixes parted.small) (pads_pad p (pads_after bytes)))

  back : from_pads text ≡ padding
  back = rw (text_is a p bits bytes) (back_is (spell a sixes) padding (spelled_no_pad a sixes parted.small) (pads_pad p (pads_after bytes)))

  unbroken : lacks is_line_break text ≡ true
  unbroken =
      rw (text_is a p bits bytes)
      (each_append (λ c. not (is_line_break c)) (spell a sixes) padding (spelled_no_break a sixes parted.small)
      (each_other is_pad (λ c. not (is_line_break c)) (λ c e. rw (eqb-true c pad e)) padding (pads_pad p (pads_after bytes))))

  text_decodes : (run : List ℕ) → without_breaks run ≡ text → DecodesTo run bytes
  unfolding decodes decoded
  text_decodes run e =
      let one = one_alphabet a (spell a sixes) (spelled_in a sixes parted.small) in
      let count = right_count p (length sixes) (pads_after bytes) (pads_fill bits bytes) (pads_few bytes) in (
        rw (e, back, front, one, pads_pad p (pads_after bytes), length-map sixes (character_of a)) count,
        rw (e, front, spelled_sixes a sixes parted.small) parted.back,
      )

-- with pad bits of 0, as RFC 4648 has them
module _ (bytes : List ℕ) (b : AreBytes bytes) where
  zero_bits : 0 < pad_bits_range (length bytes)
  zero_bits =
      let r = length bytes % 3 in
      pick_case (λ (k : ℕ). 0 < k) (eqb r 0) (λ e. lit< tt) (λ e. pick_case (λ (k : ℕ). 0 < k) (eqb r 1) (λ f. lit< tt) (λ f. lit< tt))

  without_breaks_lem : (a : Alphabet) (p : Padding) → without_breaks (encode a p bytes) ≡ encode a p bytes
  without_breaks_lem a p = no_breaks (encode a p bytes) (unbroken a p 0 bytes b zero_bits)

  canonical : (a : Alphabet) (p : Padding) → DecodesTo (encode a p bytes) bytes
  canonical a p = text_decodes a p 0 bytes b zero_bits (encode a p bytes) (without_breaks_lem a p)

  unused : used (encode standard padded bytes) ≡ []
  unfolding uses
  unused =
      let t = encode standard padded bytes in
      let l = sixes_of 0 bytes in
      let s = parted standard padded 0 bytes b zero_bits in
      let n = pads_length (pads_after bytes) in
      let k = length-append (spell standard l) (pads padded (pads_after bytes)) in
      let c : length t ≡ length l + pads_after bytes = rw (text_is standard padded 0 bytes, k, length-map l (character_of standard), n) in
      let u = without_breaks_lem standard padded in
      let f = front standard padded 0 bytes b zero_bits in
      let breaks : uses line_breaks t ≡ false = rw (unbroken standard padded 0 bytes b zero_bits) in
      let missing : uses missing_pads t ≡ false = rw (u, c, pads_fill 0 bytes) in
      let other : uses other_alphabet t ≡ false = rw (u, f, spelled_in standard l s.small) in
      let bits : uses pad_bits t ≡ false = rw (u, f, spelled_sixes standard l s.small, s.left) in
      rw (breaks, missing, other, bits)

-- ---- a run that decodes

module _ (run : List ℕ) where
  abbrev rest : List ℕ
  rest = without_breaks run

  abbrev characters : List ℕ
  characters = before_pads rest

  abbrev after : List ℕ
  after = from_pads rest

  abbrev numbers : List ℕ
  numbers = map six_bits characters

module _ (run : List ℕ) (d : decodes run ≡ true) where
  in_one : in_one_alphabet (characters run) ≡ true
  unfolding decodes
  in_one = search and_left

  only_pads : each is_pad (after run) ≡ true
  unfolding decodes
  only_pads = search (and_left, and_right)

  right : right_pads (length (characters run)) (length (after run)) ≡ true
  unfolding decodes
  right = search (and_left, and_right)

  -- it is of one alphabet or the other
  by_alphabet : {X : Type 0} → ((a : Alphabet) → each (is_in a) (characters run) ≡ true → X) → X
  by_alphabet f = or_case (each (is_in standard) (characters run)) (each (is_in url_safe) (characters run)) in_one (f standard) (f url_safe)

  -- with n pad characters it ends as a padded text does
  after_is : (n : ℕ) → length (after run) ≡ n → after run ≡ pads padded n
  after_is n e = all_pads (after run) only_pads ∙ ap (pads padded) e

  -- of an alphabet that has all its characters
  module _ (a : Alphabet) (i : each (is_in a) (characters run) ≡ true) where
    groups : Regrouped (numbers run)
    groups =
        regrouped (numbers run) (sixes_below a (characters run) i)
        (λ e. no_single (length (characters run)) (length (after run)) right (rw (length-map (characters run) six_bits) at e))

    filled : (length (characters run) + pads_after (decoded run)) % 4 ≡ 0
    unfolding decoded
    filled = rw (groups.back, length-map (characters run) six_bits) at (pads_fill (pad_bits_of (numbers run)) (decoded run))

    by_count : {X : Type 0} → (length (after run) ≡ 0 → X) → (length (after run) ≡ pads_after (decoded run) → X) → X
    by_count f g = none_or_all (length (characters run)) (length (after run)) (pads_after (decoded run)) right filled (pads_few (decoded run)) f g

    run_is : (p : Padding) → after run ≡ pads p (pads_after (decoded run)) → rest run ≡ encode_with a p (pad_bits_of (numbers run)) (decoded run)
    unfolding decoded
    run_is p e = rw (text_is a p (pad_bits_of (numbers run)) (decoded run), groups.back, sixes_spelled a (characters run) i, ← e) (two_parts (rest run))

    text_of : TextOf run (decoded run)
    unfolding decoded
    text_of = by_count (λ z. with_pads unpadded (after_is 0 z)) (λ z. with_pads padded (after_is (pads_after (decoded run)) z))
      where
        with_pads : (p : Padding) → after run ≡ pads p (pads_after (decoded run)) → TextOf run (decoded run)
        with_pads p e =
            record {
              alphabet = a;
              padding = p;
              bits = pad_bits_of (numbers run);
              are_bytes = below_bytes (decoded run) groups.are_bytes;
              in_range = groups.in_range;
              is = run_is p e;
            }

    -- where no pad character is missing, they are those of a padded text
    all_there : length (rest run) % 4 ≡ 0 → length (after run) ≡ pads_after (decoded run)
    all_there e =
        let n = ap length (two_parts (rest run)) ∙ length-append (characters run) (after run) in
        by_count (λ z. omega (arith, filled, pads_few (decoded run))) (λ z. z)

-- ---- a run that uses no leniency

-- where none of a list is used, the first is not, nor any of the others
none_used : (x : Leniency) (xs : List Leniency) (run : List ℕ) → used_of (x ∷ xs) run ≡ [] → (uses x run ≡ false) × (used_of xs run ≡ [])
none_used x xs run e = pick_second (uses x run) (λ q. zero_one cc) e

not_other : (n : ℕ) → not (eqb n 0) ≡ false → n ≡ 0
not_other n e = eqb-true n 0 (not-false (eqb n 0) e)

strict : (run : List ℕ) → decodes run ≡ true → used run ≡ [] → run ≡ encode standard padded (decoded run)
unfolding uses
strict run d e =
    let breaks = none_used line_breaks (missing_pads ∷ other_alphabet ∷ pad_bits ∷ []) run e in
    let missing = none_used missing_pads (other_alphabet ∷ pad_bits ∷ []) run breaks.1 in
    let other = none_used other_alphabet (pad_bits ∷ []) run missing.1 in
    let bits = none_used pad_bits [] run other.1 in
    let i = not-false (each (is_in standard) (characters run)) other.0 in
    let k = all_there run d standard i (not_other (length (rest run) % 4) missing.0) in
    let t = run_is run d standard i padded (after_is run d (pads_after (decoded run)) k) in
    sym (no_breaks run (not-false (lacks is_line_break run) breaks.0)) ∙ (rw (not_other (pad_bits_of (numbers run)) bits.0) at t)

-- ---- UTF-8: every byte of a run that decodes is of ASCII

abbrev is_ascii : ℕ → Bool
is_ascii b = ltb b 0x80

-- of its line breaks
break_ascii : (b : ℕ) → is_line_break b ≡ true → is_ascii b ≡ true
break_ascii b e =
    or_case (eqb b (code "\r")) (eqb b (code "\n")) e (λ q. rw (eqb-true b (code "\r") q)) (λ q. rw (eqb-true b (code "\n") q))

with_breaks : (l : List ℕ) → each is_ascii (without_breaks l) ≡ true → each is_ascii l ≡ true
unfolding without_breaks
with_breaks [] e = refl
with_breaks (b ∷ l) e =
    by_cases (is_line_break b) (λ k. rw (break_ascii b k) (with_breaks l (rw k at e)))
    (λ k. let f : each is_ascii (b ∷ without_breaks l) ≡ true = rw k at e in
    rw (each_first is_ascii b (without_breaks l) f) (with_breaks l (each_rest is_ascii b (without_breaks l) f)))

-- and of the others
rest_ascii : (run : List ℕ) → decodes run ≡ true → (a : Alphabet) → each (is_in a) (characters run) ≡ true → each is_ascii (rest run) ≡ true
rest_ascii run d a i =
    rw (two_parts (rest run))
    (each_append is_ascii (characters run) (after run)
    (each_other (is_in a) is_ascii (λ c e. lt-ltb c 0x80 (in_character a c e).ascii) (characters run) i)
    (each_other is_pad is_ascii (λ c e. rw (eqb-true c pad e)) (after run) (only_pads run d)))

all_ascii : (l : List ℕ) → each is_ascii l ≡ true → Octets l
all_ascii [] e = none
all_ascii (b ∷ l) e = octets_append (ascii_octets b (ltb-true b 0x80 (each_first is_ascii b l e))) (all_ascii l (each_rest is_ascii b l e))

pub decodes_rfc4648 : DecodesRfc4648
decodes_rfc4648 =
    record {
      canonical = λ a p bytes b. canonical bytes b a p;
      only = λ run d. by_alphabet run d (text_of run d);
      every = λ run bytes t. text_decodes t.alphabet t.padding t.bits bytes t.are_bytes t.in_range run t.is;
      strict = strict;
      unused = unused;
      utf8 = λ run d. all_ascii run (with_breaks run (by_alphabet run d (rest_ascii run d)));
    }
