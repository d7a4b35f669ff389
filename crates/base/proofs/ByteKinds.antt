-- For the tests of class.rt and for kinds.rt: the table of byte kinds. Each rule is one test that antt computes over the whole table, and one law that
-- turns it into the rule at each byte. Assumes nothing.
use mathlib.Core.Path.{◌≡◌, refl}
use mathlib.Core.Bool.{Bool, true, false, not, ◌&&◌, ◌||◌}
use Prim.Native.Nat.{ℕ, ◌+◌, ◌*◌, ◌/◌, ◌%◌, ◌<◌}
use Prim.Native.Char.{code}
use native.Mathlib.Nat.{mod-lt, div-add-mod, div-lt_iff_lt-mul}
use native.Mathlib.Omega.{arith}
use borrow.Author.Tests.{eqb-true}
use lib.Bits.{bit_or}
use lib.Dec.{T, eqb, eqb→eq, leb, ltb, lit<}
use Rattle.base.specs.Classes.{is_digit, is_lower_alpha, is_ident_start, is_ident_part, is_duration_unit}
use Rattle.base.specs.Kinds.{kind_of, is_letter, begins_unit, sum_of_kinds, TableOfKinds}
use Rattle.base.specs.Masks.{mask_of, word_of, has_bit, is_kind, kind_test}
use Rattle.base.proofs.Tests.{or_case}
use Rattle.base.proofs.Tables.{all, all_below}

-- two numbers of a byte that are the same for each
pub numbers_agree : (f g : ℕ → ℕ) → T (all (λ (k : ℕ). eqb (f k) (g k)) 256) → (b : ℕ) → b < 256 → f b ≡ g b
numbers_agree f g t b h = eqb→eq (f b) (g b) (all_below (λ (k : ℕ). eqb (f k) (g k)) 256 t b h)

-- each of the 256 entries is the sum of its byte's kinds
pub table_of_kinds : TableOfKinds
unfolding sum_of_kinds is_digit is_letter is_ident_start is_ident_part is_duration_unit begins_unit
table_of_kinds = record { size = refl; sums = numbers_agree (λ (k : ℕ). kind_of k) sum_of_kinds tt }

-- ---- the tests that read it

abbrev pub agree : Bool → Bool → Bool
agree true b = b
agree false b = not b

agreed : (a b : Bool) → T (agree a b) → a ≡ b
agreed true true t = refl
agreed true false t = absurd t
agreed false true t = absurd t
agreed false false t = refl

-- the same of two tests
pub tests_agree : (f g : ℕ → Bool) → T (all (λ (k : ℕ). agree (f k) (g k)) 256) → (b : ℕ) → b < 256 → f b ≡ g b
tests_agree f g t b h = agreed (f b) (g b) (all_below (λ (k : ℕ). agree (f k) (g k)) 256 t b h)

-- what holds of each of the four kinds
pub by_kind : (P : ℕ → Type 0) → P 1 → P 2 → P 4 → P 8 → (n : ℕ) → is_kind n ≡ true → P n
by_kind P a b c d n e =
    or_case ((eqb n 1 || eqb n 2) || eqb n 4) (eqb n 8) e
    (λ f. or_case (eqb n 1 || eqb n 2) (eqb n 4) f
    (λ g. or_case (eqb n 1) (eqb n 2) g (λ h. rw (eqb-true n 1 h) a) (λ h. rw (eqb-true n 2 h) b)) (λ g. rw (eqb-true n 4 g) c))
    (λ f. rw (eqb-true n 8 f) d)

-- ---- four rows of sixteen entries make the word of 64

abbrev joined : ℕ → ℕ → ℕ → ℕ → ℕ
joined w x y z =
    bit_or (bit_or (bit_or w (x * 65536 % 18446744073709551616)) (y * 4294967296 % 18446744073709551616)) (z * 281474976710656 % 18446744073709551616)

module _ (n q : ℕ) where
  abbrev rows : ℕ
  rows = joined (mask_of n (64 * q) 16) (mask_of n (64 * q + 16) 16) (mask_of n (64 * q + 32) 16) (mask_of n (64 * q + 48) 16)

  abbrev joins : Bool
  joins = eqb rows (mask_of n (64 * q) 64)

-- for each of the four kinds, and q times 64 bytes before
rows_join : (n q : ℕ) → is_kind n ≡ true → q < 4 → rows n q ≡ mask_of n (64 * q) 64
unfolding mask_of
rows_join n q e l = by_kind (λ k. rows k q ≡ mask_of k (64 * q) 64) (at 1 tt) (at 2 tt) (at 4 tt) (at 8 tt) n e
  where
    at : (k : ℕ) → T (all (joins k) 4) → rows k q ≡ mask_of k (64 * q) 64
    at k t = eqb→eq (rows k q) (mask_of k (64 * q) 64) (all_below (joins k) 4 t q l)

-- in the case that b is one of these
pub four_rows : (n q : ℕ) → is_kind n ≡ true → q < 4 → (b w x y z : ℕ) → b / 64 ≡ q → w ≡ mask_of n (64 * q) 16
    → x ≡ mask_of n (64 * q + 16) 16 → y ≡ mask_of n (64 * q + 32) 16 → z ≡ mask_of n (64 * q + 48) 16
    → joined w x y z ≡ word_of n b
four_rows n q u l b w x y z e f g h i = rw (e, f, g, h, i) (rows_join n q u l)

quarter_lt : (b : ℕ) → b < 256 → b / 64 < 4
quarter_lt b h = (div-lt_iff_lt-mul (lit< tt)).1 h

-- the same in the last case, where the three before it do not hold
pub last_rows : (n : ℕ) → is_kind n ≡ true → (b w x y z : ℕ) → b < 256 → (b / 64 ≡ 0 → ⊥) → (b / 64 ≡ 1 → ⊥) → (b / 64 ≡ 2 → ⊥) → w ≡ mask_of n 192 16
    → x ≡ mask_of n 208 16 → y ≡ mask_of n 224 16 → z ≡ mask_of n 240 16 → joined w x y z ≡ word_of n b
last_rows n u b w x y z h l m k =
    let q = quarter_lt b h in
    four_rows n 3 u (lit< tt) b w x y z (omega (arith, l, m, k))

-- ---- the bit of a byte in the word of its kind tells the kind

-- the bits of a word agree with a test at each of its 64 bytes, q times as many bytes standing before them
abbrev bits_agree : ℕ → (ℕ → Bool) → ℕ → Bool
bits_agree w f q = all (λ (i : ℕ). agree (has_bit w (64 * q + i)) (f (64 * q + i))) 64

-- so those of each kind do; a word is worked out once for its 64 bytes
abbrev all_agree : ℕ → Bool
all_agree n = all (λ (q : ℕ). bits_agree (mask_of n (64 * q) 64) (kind_test n) q) 4

pub word_tells : (n : ℕ) → is_kind n ≡ true → (b : ℕ) → b < 256 → has_bit (word_of n b) b ≡ kind_test n b
unfolding mask_of kind_test is_digit is_letter is_ident_start is_ident_part is_duration_unit begins_unit
word_tells n e b l = by_kind (λ k. has_bit (word_of k b) b ≡ kind_test k b) (at 1 tt) (at 2 tt) (at 4 tt) (at 8 tt) n e
  where
    at : (k : ℕ) → T (all_agree k) → has_bit (word_of k b) b ≡ kind_test k b
    at k s =
        let w = word_of k b in
        let f = kind_test k in
        let t = all_below (λ (q : ℕ). bits_agree (mask_of k (64 * q) 64) f q) 4 s (b / 64) (quarter_lt b l) in
        let u = all_below (λ (i : ℕ). agree (has_bit w (64 * (b / 64) + i)) (f (64 * (b / 64) + i))) 64 t (b % 64) (mod-lt b (lit< tt)) in
        let c = 64 * (b / 64) + b % 64 in
        let v : has_bit w c ≡ f c = agreed (has_bit w c) (f c) u in
        rw (div-add-mod b 64) at v

-- ---- letters and units by their other tests

-- the table does not tell case
pub lower_letter : (b : ℕ) → b < 256 → leb (code "a") b && is_letter b ≡ is_lower_alpha b
unfolding is_letter is_lower_alpha
lower_letter = tests_agree (λ (b : ℕ). leb (code "a") b && is_letter b) is_lower_alpha tt

-- without the first byte of µs
pub unit_ascii : (b : ℕ) → b < 256 → ltb b 128 && begins_unit b ≡ is_duration_unit b
unfolding is_duration_unit begins_unit
unit_ascii = tests_agree (λ (b : ℕ). ltb b 128 && begins_unit b) is_duration_unit tt
