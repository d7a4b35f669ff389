-- For the escapes and `next_piece`: each return is a row of its definition; and the digits that `code_escape` has read, with
-- those that are left, make the whole number. By the tests. Assumes nothing.
use mathlib.Core.Path.{◌≡◌, refl, sym, ◌∙◌}
use mathlib.Core.Bool.{Bool, true}
use mathlib.Core.List.{List, ◌∷◌}
use Rattle.std.proofs.Common.{Option, Some, None, is_some, unwrap_or, get_or-take}
use Prim.Native.Nat.{ℕ, suc, ◌+◌, ◌-◌, ◌*◌, ◌^◌, ◌≤◌, ◌<◌}
use native.Mathlib.Nat.{pow-suc}
use native.Mathlib.Numerals.{add-one}
use native.Mathlib.Omega.{arith}
use lib.ListN.{length, drop, take}
use lib.Seq.{drop-cons, length-take-le}
use borrow.Author.Tests.{le-ltb, lt-ltb, leb-true}
use Rattle.base.specs.Choice.{pick}
use Rattle.base.specs.Bytes.{byte}
use Rattle.base.proofs.Tests.{and_left}
use Rattle.utf8.specs.Character.{is_scalar, encode_of}
use Rattle.strings.specs.Piece.{hex_of, bytes_piece, hex_count, hex_value, code_piece}
use Rattle.strings.specs.declared.piece.BadEscape.{BadEscape}
use Rattle.strings.specs.declared.piece.Piece.{Piece}
use Rattle.strings.specs.declared.piece.Piece.TheVariants.{Bad}

-- a valid code point is one that `encode` takes
pub valid_low : (r : ℕ) (b : Bool) → b ≡ is_scalar r → b ≡ true → r ≤ 0x10FFFF
unfolding is_scalar
valid_low r b e t = leb-true r 0x10FFFF (and_left _ _ (sym e ∙ t))

-- ---- `code_escape`

-- after k digits of n: l is the text after the letter, and r the number that they spell
pub record Run (n : ℕ) (l : List ℕ) (r k : ℕ) : Type 0 where
  pub upto : k ≤ n
  pub count : hex_count n l ≡ k + hex_count (n - k) (drop k l)
  pub value : hex_value n 0 l ≡ hex_value (n - k) r (drop k l)
  pub small : r < 16 ^ k

count_cons : (n x : ℕ) (l : List ℕ) → hex_count (suc n) (x ∷ l) ≡ pick (is_some (hex_of x)) (suc (hex_count n l)) 0
unfolding hex_count
count_cons n x l = refl

value_cons : (n r x : ℕ) (l : List ℕ) → hex_value (suc n) r (x ∷ l) ≡ hex_value n (r * 16 + unwrap_or (hex_of x) 0) l
unfolding hex_value
value_cons n r x l = refl

module _ (n : ℕ) (l : List ℕ) (r k : ℕ) (long : n ≤ length l) (u : Run n l r k) (more : k < length (take n l)) where
  below : k < n
  below = omega (arith, length-take-le n l long)

  here : byte (take n l) k ≡ byte l k
  here = get_or-take n l k 0 below

  count_here : hex_count n l ≡ k + pick (is_some (hex_of (byte l k))) (suc (hex_count (n - (k + 1)) (drop (k + 1) l))) 0
  count_here =
      let s : n - k ≡ suc (n - (k + 1)) = omega (arith, below) in
      u.count ∙ rw (s, drop-cons l k 0 (omega (arith, below)), count_cons, add-one k) refl

  -- a byte that is no digit
  pub run_bad : (v : Option ℕ) (p : Piece) (x : BadEscape) → v ≡ hex_of (byte (take n l) k) → v ≡ None → p ≡ Bad x (k + 2)
      → p ≡ code_piece n x l
  unfolding code_piece
  run_bad v p x e f q =
      let c : hex_count n l ≡ k = count_here ∙ rw (← here, ← e, f) (omega arith) in
      q ∙ simp (le-ltb (length l) n long, c, lt-ltb k n below)

  pub run_more : (v : Option ℕ) (d w : ℕ) → v ≡ hex_of (byte (take n l) k) → v ≡ Some d → d < 16 → w ≡ d → Run n l (r * 16 + w) (k + 1)
  run_more v d w e f b g =
      let s : n - k ≡ suc (n - (k + 1)) = omega (arith, below) in
      record {
        upto = omega (arith, below);
        count = count_here ∙ rw (← here, ← e, f) (omega arith);
        value = u.value ∙ rw (s, drop-cons l k 0 (omega (arith, below)), value_cons, ← here, ← e, f, add-one k, g) refl;
        small = let p : 16 ^ (k + 1) ≡ 16 ^ k * 16 = rw add-one (pow-suc 16 k) in omega (arith, u.small);
      }

-- too few bytes
pub code_short : (p : Piece) (n : ℕ) (x : BadEscape) (l : List ℕ) → length l < n → p ≡ Bad x 2 → p ≡ code_piece n x l
unfolding code_piece
code_short p n x l h q = q ∙ simp (lt-ltb (length l) n h)

-- all digits read
module _ (n : ℕ) (l : List ℕ) (r k : ℕ) (long : n ≤ length l) (u : Run n l r k) (end : length (take n l) ≤ k) where
  done : k ≡ n
  done = omega (arith, length-take-le n l long, u.upto)

  all_count : hex_count n l ≡ n
  unfolding hex_count
  all_count = let z : n - n ≡ 0 = omega arith in rw done at u.count ∙ rw z (omega arith)

  all_value : hex_value n 0 l ≡ r
  unfolding hex_value
  all_value = let z : n - k ≡ 0 = omega (arith, done) in u.value ∙ rw z refl

  pub code_read : (p : Piece) (x : BadEscape) (v b : Bool) → v ≡ is_scalar r → v ≡ b
      → p ≡ pick b (bytes_piece (encode_of r) (n + 2)) (Bad x (n + 2)) → p ≡ code_piece n x l
  unfolding code_piece
  code_read p x v b e f q = q ∙ simp (le-ltb (length l) n long, all_count, le-ltb n n (omega arith), all_value, ← e, f)
