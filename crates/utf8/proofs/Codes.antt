-- For `decode`, `is_white`, `white_size`, and scan and triple_strings: what they return, and bounds. By rewriting and by cases on the size. Assumes nothing.
use mathlib.Core.Path.{◌≡◌, refl, sym, ◌∙◌}
use mathlib.Core.Bool.{Bool, true, false, ◌||◌, or_assoc, or-false}
use mathlib.Core.List.{List}
use Prim.Native.Nat.{ℕ, ◌≤◌, ◌<◌, zero-le}
use native.Mathlib.Omega.{arith}
use borrow.Author.Tests.{eqb-true, eqb-false, ne_eqb}
use lib.Dec.{eqb, lit<}
use lib.ListN.{length, take}
use lib.Seq.{get_or-take, length-take-le}
use Rattle.std.specs.Prelude.{Option, Some, None}
use Rattle.std.specs.Bool.{then_some}
use Rattle.base.specs.Choice.{pick}
use Rattle.base.specs.Helpers.{nonzero}
use Rattle.base.specs.Bytes.{within}
use Rattle.base.proofs.Tests.{by_cases, pick_case, pick_le, within_one}
use Rattle.utf8.specs.Grammar.{char_size}
use Rattle.utf8.specs.Character.{code_bits, code_of, is_white, white_size}
use Rattle.utf8.specs.Helpers.{decode_of}
use Rattle.utf8.specs.declared.character.Character.{Character}
use Rattle.utf8.proofs.Chars.{size_le, size_single}
use Rattle.base.proofs.Nonzero.{none_zero, some_same, some_more, zero_none, more_some}

-- the free bits of a character are in its own bytes
bits_front : (n : ℕ) (s : List ℕ) → code_bits n (take n s) ≡ code_bits n s
unfolding code_bits
bits_front n s =
    by_cases (eqb n 1) (λ e. rw (eqb-true n 1 e, get_or-take 1 s 0 0 (lit< tt)))
    (λ e. by_cases (eqb n 2) (λ f. rw (eqb-true n 2 f, get_or-take 2 s 0 0 (lit< tt), get_or-take 2 s 1 0 (lit< tt)))
    (λ f. by_cases (eqb n 3) (λ g. rw (eqb-true n 3 g, get_or-take 3 s 0 0 (lit< tt), get_or-take 3 s 1 0 (lit< tt), get_or-take 3 s 2 0 (lit< tt)))
    (λ g. by_cases (eqb n 4)
    (λ h. rw (eqb-true n 4 h, get_or-take 4 s 0 0 (lit< tt), get_or-take 4 s 1 0 (lit< tt), get_or-take 4 s 2 0 (lit< tt), get_or-take 4 s 3 0 (lit< tt)))
    (λ h. rw (e, f, g, h)))))

-- `decode`
module _ (s : List ℕ) (r : Option ℕ) (e : r ≡ nonzero (char_size s)) where
  pub decoded_none : r ≡ None → None ≡ decode_of s
  unfolding decode_of
  decoded_none q = rw (none_zero (char_size s) (sym q ∙ e))

  module _ (n : ℕ) (q : r ≡ Some n) where
    size : char_size s ≡ n
    size = some_same (char_size s) n (sym q ∙ e)

    pub size_in : n ≤ length s
    size_in = omega (arith, size_le s, size)

    pub decoded : (x : ℕ) → x ≡ code_bits (length (take n s)) (take n s) → Some (record { code = x; size = n }) ≡ decode_of s
    unfolding decode_of code_of
    decoded x w =
        let m : 0 < n = some_more (char_size s) n (sym q ∙ e) in
        rw (size, ne_eqb n 0 (λ z. omega arith), w, length-take-le n s size_in, bits_front n s)

-- the code point of an answer of `decode`, or 0 where it is none
abbrev pub code_in : Option Character → ℕ
code_in None = 0
code_in (Some x) = x.code

pub code_decoded : (s : List ℕ) → code_in (decode_of s) ≡ code_of s
unfolding decode_of code_of code_bits
code_decoded s = by_cases (eqb (char_size s) 0) (λ e. rw (e, eqb-true (char_size s) 0 e)) (λ e. rw e)

-- `white_size`
module _ (s : List ℕ) (d : Option Character) (e : d ≡ decode_of s) where
  pub white_none : d ≡ None → None ≡ nonzero (white_size s)
  unfolding decode_of white_size
  white_none z =
      by_cases (eqb (char_size s) 0) (λ w. zero_none (white_size s) (pick_case (λ n. n ≡ 0) (is_white (code_of s)) (λ _. eqb-true (char_size s) 0 w) (λ _. refl)))
      (λ w. let q : ◌≡◌ {A = Option Character} None (Some (record { code = code_of s; size = char_size s })) = rw w at (sym z ∙ e) in
      let y : ◌≡◌ {A = ℕ} 0 1 = cc in absurd (omega arith))

  module _ (x : Character) (z : d ≡ Some x) where
    sized : (x ≡ record { code = code_of s; size = char_size s }) × (0 < char_size s)
    unfolding decode_of
    sized =
        by_cases (eqb (char_size s) 0) (λ w. let q : ◌≡◌ {A = Option Character} (Some x) None = rw w at (sym z ∙ e) in
        let y : ◌≡◌ {A = ℕ} 0 1 = cc in absurd (omega arith))
        (λ w. let q : ◌≡◌ {A = Option Character} (Some x) (Some (record { code = code_of s; size = char_size s })) = rw w at (sym z ∙ e) in
        (cc, omega (arith, eqb-false (char_size s) 0 w)))

    pub white_found : (w : Bool) → w ≡ is_white x.code → then_some w x.size ≡ nonzero (white_size s)
    unfolding white_size
    white_found w f = rw (← rw sized.0 at f, sized.0) (go w)
      where
        go : (b : Bool) → then_some b (char_size s) ≡ nonzero (pick b (char_size s) 0)
        go true = more_some (char_size s) sized.1
        go false = refl

-- `is_white`
pub white_law : (x : ℕ)
    → (((((((((within 0x9 0xD x || eqb x 0x20) || eqb x 0x85) || eqb x 0xA0) || eqb x 0x1680) || within 0x2000 0x200A x) || within 0x2028 0x2029 x)
    || eqb x 0x202F) || eqb x 0x205F) || eqb x 0x3000) ≡ is_white x
unfolding is_white
white_law x = simp (or_assoc, or-false, within_one)

-- ---- bounds

pub code_small : (s : List ℕ) → code_of s < 0x200000
unfolding code_of code_bits
code_small s =
    let P : ℕ → Type 0 = λ n. n < 0x200000 in
    pick_case P (eqb (char_size s) 1) (λ e. omega (arith, size_single s (eqb-true (char_size s) 1 e)))
    (λ e. pick_case P (eqb (char_size s) 2) (λ f. omega arith)
    (λ f. pick_case P (eqb (char_size s) 3) (λ g. omega arith)
    (λ g. pick_case P (eqb (char_size s) 4) (λ h. omega arith) (λ h. omega arith))))

pub white_le : (s : List ℕ) → white_size s ≤ length s
unfolding white_size
white_le s = pick_le (is_white (code_of s)) (size_le s) zero-le

-- what `decode` and `white_size` need at each return
pub ruleset decoding = (decoded_none, decoded)

pub ruleset whitening = (white_none, white_found)
