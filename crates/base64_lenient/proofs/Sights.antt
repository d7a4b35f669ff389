-- For `Seen` and `judge`: what is seen of a run, one byte after the other, many characters at once, and from one part of the run to the next. By cases
-- on the byte. Assumes nothing.
use Rattle.std.specs.Prelude.{None}
use mathlib.Core.Path.{◌≡◌, refl, sym, ap, ◌∙◌}
use mathlib.Core.Bool.{true, false}
use mathlib.Core.List.{List, [], ◌∷◌, ◌++◌}
use Prim.Native.Nat.{ℕ, suc, ◌+◌, ◌-◌, ◌≤◌, ◌<◌}
use native.Mathlib.Nat.{add-zero}
use native.Mathlib.Numerals.{add-one}
use native.Mathlib.Omega.{arith}
use lib.Dec.{eqb}
use lib.ListN.{length, take, drop, take-append-drop, length-drop, drop_of_length-le}
use lib.Seq.{drop-cons, drop-drop, length-take-le}
use Rattle.base.specs.Choice.{pick}
use Rattle.base.specs.Bytes.{byte}
use Rattle.base.specs.Blocks.{all_pass}
use Rattle.base.proofs.Tests.{by_cases, and_left, and_right, and-true, and-false, and_assoc, or_left, or_right, pick_case, true_false, told}
use Rattle.base64_lenient.specs.Rfc4648.{Alphabet, standard, url_safe}
use Rattle.base64_lenient.specs.Lenient.{is_line_break, is_pad, is_in}
use Rattle.base64_lenient.specs.Helpers.{in_both, alphabets_by, alphabets_of, shared, some_alphabet, characters_seen, seen_one, seen_all, judged_seen, SeenTo}
use Rattle.base64_lenient.specs.declared.alphabet.Alphabets.{Alphabets}
use Rattle.base64_lenient.specs.declared.judge.Seen.{Seen}
use Rattle.base64_lenient.proofs.Characters.{in_character}

-- ---- one byte

module _ (w : Seen) (b : ℕ) where
  pub seen_break : is_line_break b ≡ true → seen_one w b ≡ w
  unfolding seen_one
  seen_break e = rw e

  pub seen_pad : is_line_break b ≡ false → is_pad b ≡ true
      → seen_one w b ≡ record { alphabets = w.alphabets; characters = w.characters; pads = w.pads + 1 }
  unfolding seen_one
  seen_pad e f = rw (e, f)

  module _ (e : is_line_break b ≡ false) (f : is_pad b ≡ false) where
    -- before the pad characters
    pub seen_character : w.pads ≡ 0
        → seen_one w b ≡ record { alphabets = shared w.alphabets (alphabets_of b); characters = w.characters + 1; pads = w.pads }
    unfolding seen_one
    seen_character z = rw (e, f, z)

    -- after them
    pub seen_late : eqb w.pads 0 ≡ false → seen_one w b ≡ record { alphabets = alphabets_by false false; characters = w.characters + 1; pads = w.pads }
    unfolding seen_one
    seen_late z = rw (e, f, z, and-false w.alphabets.standard, and-false w.alphabets.url_safe)

  -- what holds in each of the three cases
  by_byte : (P : Seen → Type 0) → P w → P (record { alphabets = w.alphabets; characters = w.characters; pads = w.pads + 1 })
      → P (record { alphabets = shared w.alphabets (pick (eqb w.pads 0) (alphabets_of b) (alphabets_by false false)); characters = w.characters + 1; pads = w.pads })
      → P (seen_one w b)
  unfolding seen_one
  by_byte P x y z = pick_case P (is_line_break b) (λ p. x) (λ p. pick_case P (is_pad b) (λ q. y) (λ q. z))

  one_characters : (seen_one w b).characters ≤ w.characters + 1
  one_characters = by_byte (λ (x : Seen). x.characters ≤ w.characters + 1) (omega arith) (omega arith) (omega arith)

  one_pads : (seen_one w b).pads ≤ w.pads + 1
  one_pads = by_byte (λ (x : Seen). x.pads ≤ w.pads + 1) (omega arith) (omega arith) (omega arith)

  one_none : some_alphabet w.alphabets ≡ false → some_alphabet (seen_one w b).alphabets ≡ false
  one_none e =
      by_byte (λ (x : Seen). some_alphabet x.alphabets ≡ false) e e
      (rw (or_left w.alphabets.standard w.alphabets.url_safe e, or_right w.alphabets.standard w.alphabets.url_safe e))

-- ---- more bytes

pub seen_append : (w : Seen) (l r : List ℕ) → seen_all w (l ++ r) ≡ seen_all (seen_all w l) r
unfolding seen_all
seen_append w [] r = refl
seen_append w (b ∷ l) r = seen_append (seen_one w b) l r

-- what each byte keeps, all keep
over_all : (P : Seen → Type 0) → ((w : Seen) (b : ℕ) → P w → P (seen_one w b)) → (w : Seen) (l : List ℕ) → P w → P (seen_all w l)
unfolding seen_all
over_all P f w [] h = h
over_all P f w (b ∷ l) h = over_all P f (seen_one w b) l (f w b h)

-- where no alphabet is left, the run fails
pub none_fails : (w : Seen) (l : List ℕ) → some_alphabet w.alphabets ≡ false → judged_seen (seen_all w l) ≡ None
unfolding judged_seen
none_fails w l e = rw (over_all (λ (x : Seen). some_alphabet x.alphabets ≡ false) one_none w l e)

all_characters : (w : Seen) (l : List ℕ) → (seen_all w l).characters ≤ w.characters + length l
unfolding seen_all
all_characters w [] = omega arith
all_characters w (b ∷ l) = omega (arith, all_characters (seen_one w b) l, one_characters w b)

all_pads : (w : Seen) (l : List ℕ) → (seen_all w l).pads ≤ w.pads + length l
unfolding seen_all
all_pads w [] = omega arith
all_pads w (b ∷ l) = omega (arith, all_pads (seen_one w b) l, one_pads w b)

-- ---- the loop of `all`: what is seen of the list to i

pub record Going (s : List ℕ) (w₀ w : Seen) (i : ℕ) : Type 0 where
  pub same : seen_all w (drop i s) ≡ seen_all w₀ s
  pub characters : w.characters ≤ w₀.characters + i
  pub pads : w.pads ≤ w₀.pads + i

module _ (s : List ℕ) (w₀ w : Seen) (i : ℕ) (u : Going s w₀ w i) where
  pub going_turn : i < length s → (x : Seen) → x ≡ seen_one w (byte s i) → Going s w₀ x (i + 1)
  unfolding seen_all
  going_turn h x e =
      rw e
      (record {
        same = rw (add-one i) ((rw (drop-cons s i 0 h) at u.same));
        characters = omega (arith, u.characters, one_characters w (byte s i));
        pads = omega (arith, u.pads, one_pads w (byte s i));
      })

  pub going_end : length s ≤ i → w ≡ seen_all w₀ s
  unfolding seen_all
  going_end h = rw (drop_of_length-le s h) at u.same

-- ---- characters at once

-- a character that both alphabets have, before the pad characters
pub seen_both : (w : Seen) (b : ℕ) → w.pads ≡ 0 → in_both b ≡ true
    → seen_one w b ≡ record { alphabets = w.alphabets; characters = w.characters + 1; pads = w.pads }
unfolding in_both
seen_both w b z e =
    let s = and_left (is_in standard b) (is_in url_safe b) e in
    let y = and_right (is_in standard b) (is_in url_safe b) e in
    seen_character w b (in_character standard b s).no_break (in_character standard b s).no_pad z
    ∙ rw (s, y, and-true w.alphabets.standard, and-true w.alphabets.url_safe)

-- the alphabets that have all of a list
abbrev pub alphabets_all : List ℕ → Alphabets
alphabets_all l = alphabets_by (all_pass (is_in standard) l) (all_pass (is_in url_safe) l)

-- characters that all are of one alphabet: which alphabets have them all
at_once : (a : Alphabet) (left : Alphabets) (n : ℕ) (l : List ℕ) → all_pass (is_in a) l ≡ true
    → seen_all (characters_seen left n) l ≡ characters_seen (shared left (alphabets_all l)) (n + length l)
unfolding seen_all all_pass
at_once a left n [] h = rw (and-true left.standard, and-true left.url_safe, add-zero n)
at_once a left n (b ∷ l) h =
    let i = in_character a b (and_left (is_in a b) (all_pass (is_in a) l) h) in
    let x = is_in standard b in
    let y = is_in url_safe b in
    let o : n + 1 + length l ≡ n + suc (length l) = omega arith in
    rw (
      seen_character (characters_seen left n) b i.no_break i.no_pad refl,
      at_once a (shared left (alphabets_of b)) (n + 1) l (and_right (is_in a b) (all_pass (is_in a) l) h),
      o,
      and_assoc left.standard x (all_pass (is_in standard) l),
      and_assoc left.url_safe y (all_pass (is_in url_safe) l),
    )

-- ---- from one part of the run to the next

-- the length of a part
pub part_size : (run : List ℕ) (i j : ℕ) → i ≤ j → j ≤ length run → length (take (j - i) (drop i run)) ≡ j - i
part_size run i j h l = length-take-le (j - i) (drop i run) (omega (arith, length-drop i run))

module _ (run : List ℕ) (w : Seen) (i : ℕ) (u : SeenTo run w i) (j : ℕ) (h : i ≤ j) (l : j ≤ length run) where
  pub seen_further : (x : Seen) → x ≡ seen_all w (take (j - i) (drop i run)) → SeenTo run x j
  seen_further x e =
      let n : i + (j - i) ≡ j = omega arith in
      let k = part_size run i j h l in
      rw e
      (record {
        inside = l;
        same = sym (ap (λ (d : ℕ). seen_all (seen_all w (take (j - i) (drop i run))) (drop d run)) n)
            ∙ sym (ap (seen_all (seen_all w (take (j - i) (drop i run)))) (drop-drop (j - i) i run))
            ∙ sym (seen_append w (take (j - i) (drop i run)) (drop (j - i) (drop i run)))
            ∙ ap (seen_all w) (take-append-drop (j - i) (drop i run)) ∙ u.same;
        characters = omega (arith, all_characters w (take (j - i) (drop i run)), u.characters);
        pads = omega (arith, all_pads w (take (j - i) (drop i run)), u.pads);
      })

-- characters of which an alphabet is left that has all before them
left_at_once : (left : Alphabets) (n : ℕ) (l : List ℕ) → some_alphabet (shared left (alphabets_all l)) ≡ true
    → seen_all (characters_seen left n) l ≡ characters_seen (shared left (alphabets_all l)) (n + length l)
left_at_once left n l z =
    by_cases (all_pass (is_in standard) l) (at_once standard left n l)
    (λ p. by_cases (all_pass (is_in url_safe) l) (at_once url_safe left n l)
    (λ q. true_false false (rw (p, q, and-false left.standard, and-false left.url_safe) at z) refl))

-- a row of them
pub seen_row : (run : List ℕ) (left : Alphabets) (n i j : ℕ) → SeenTo run (characters_seen left n) i → i ≤ j → j ≤ length run
    → (row : Alphabets) → row ≡ alphabets_all (take (j - i) (drop i run))
    → some_alphabet (shared left row) ≡ true → SeenTo run (characters_seen (shared left row) (n + (j - i))) j
seen_row run left n i j u h l row e z =
    let k = part_size run i j h l in
    seen_further run (characters_seen left n) i u j h l (characters_seen (shared left row) (n + (j - i)))
    (rw e (sym (left_at_once left n (take (j - i) (drop i run)) (rw e at z) ∙ rw k)))

-- what `Seen::one` needs at each return
pub ruleset steps = (told, seen_break, seen_pad, seen_character, seen_late, seen_both)
