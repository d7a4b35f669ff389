-- For the loops over rows and the round trips: the next of the rows that are left, the rows of a slice as those of its records, and how long what is made
-- of rows is. By induction on the count or the rows. Any layout. Assumes nothing.
use mathlib.Core.Path.{◌≡◌, refl, ap}
use mathlib.Core.List.{List, [], ◌∷◌, map}
use Prim.Native.Nat.{ℕ, zero, suc, ◌+◌, ◌*◌, ◌≤◌, ◌<◌}
use native.Mathlib.Nat.{not-suc-le-zero, mul-suc, mul-le-mul_left}
use native.Mathlib.Omega.{arith}
use lib.IntN.{ℤ, pos}
use lib.ListN.{length, get_or, take, drop, length-append}
use lib.Seq.{drop-drop}
use Rattle.std.specs.Simd.{first_chunks}
use Rattle.std.proofs.lemmas.List.{drop-map, at_drop_more, get_or-take}
use Rattle.token.specs.Layout.{record_width}
use Rattle.token_file.specs.Rules.{field_at, row_at, rows_of, natural_row, natural_rows, row_numbers, rows_numbers}
use Rattle.token_file.specs.Format.{header_width, row_width, row_bytes, rows_bytes, file_width, bytes_row, bytes_rows}
use Rattle.token_file.specs.Fits.{all_natural}
use Rattle.token_file.specs.declared.row.Row.{Row}
use Rattle.token_file.specs.declared.layout.Layout.{Layout}
use Rattle.token_file.proofs.Numbers.{length_little}

-- ---- the next row

-- the row at i, and those after it
abbrev pub Next : List Row → ℕ → Row → Type 0
Next rs i r = drop i rs ≡ r ∷ drop (i + 1) rs

pub next_record : (l : List (List ℤ)) (i : ℕ) {r : Row} → i < length l → r ≡ row_at (get_or l i []) → Next (map row_at l) i r
next_record l i h e = rw (drop-map row_at i l, drop-map row_at (i + 1) l, e) (at_drop_more (map row_at) l i [] h)

next_of_bytes : (y : Layout) (n i : ℕ) (l : List ℕ) → i < n → Next (bytes_rows y n l) i (bytes_row y (drop (row_width y * i) l))
unfolding bytes_rows
next_of_bytes y zero i l h = absurd (not-suc-le-zero h)
next_of_bytes y (suc n) zero l h = let e : row_width y * 0 ≡ 0 = omega arith in rw e
next_of_bytes y (suc n) (suc i) l h =
    let e : suc i + 1 ≡ suc (i + 1) = omega arith in
    let m : row_width y * suc i ≡ row_width y + row_width y * i = omega (arith, mul-suc (row_width y) i) in
    rw (e, m) (rw drop-drop at (next_of_bytes y n i (drop (row_width y) l) (omega arith)))

pub next_in_file : (y : Layout) (file : List ℕ) (n i : ℕ) {r : Row} → i < n → r ≡ bytes_row y (drop (file_width y i) file)
    → Next (bytes_rows y n (drop header_width file)) i r
unfolding file_width
next_in_file y file n i h e = rw e (rw drop-drop at (next_of_bytes y n i (drop header_width file) h))

-- there is room for it
pub row_inside : (y : Layout) (n i : ℕ) → i < n → file_width y (i + 1) ≤ file_width y n
unfolding file_width
row_inside y n i h = omega (arith, mul-le-mul_left (row_width y) h)

pub next_width : (y : Layout) (i : ℕ) → file_width y (i + 1) ≡ file_width y i + row_width y
unfolding file_width
next_width y i = let e : i + 1 ≡ suc i = omega arith in rw e (omega (arith, mul-suc (row_width y) i))

-- ---- the records of a slice

module _ (l : List ℤ) where
  field_of_chunk : (k : ℕ) → k < record_width → field_at (take record_width l) k ≡ field_at l k
  field_of_chunk k h = get_or-take record_width l k (pos 0) h

  row_of_chunk : row_at (take record_width l) ≡ row_at l
  unfolding row_at
  row_of_chunk =
      rw (
        field_of_chunk 0 (omega arith),
        field_of_chunk 1 (omega arith),
        field_of_chunk 3 (omega arith),
        field_of_chunk 4 (omega arith),
        field_of_chunk 5 (omega arith),
        field_of_chunk 6 (omega arith),
      )

  natural_of_chunk : natural_row (take record_width l) ≡ natural_row l
  unfolding natural_row
  natural_of_chunk =
      rw (
        field_of_chunk 0 (omega arith),
        field_of_chunk 1 (omega arith),
        field_of_chunk 3 (omega arith),
        field_of_chunk 4 (omega arith),
        field_of_chunk 5 (omega arith),
        field_of_chunk 6 (omega arith),
      )

pub rows_of_chunks : (n : ℕ) (l : List ℤ) → map row_at (first_chunks record_width n l) ≡ rows_of n l
unfolding rows_of
rows_of_chunks zero l = refl
rows_of_chunks (suc n) l = rw (row_of_chunk l, rows_of_chunks n (drop record_width l))

pub natural_chunks : (n : ℕ) (l : List ℤ) → all_natural (first_chunks record_width n l) ≡ natural_rows n l
unfolding natural_rows
natural_chunks zero l = refl
natural_chunks (suc n) l = rw (natural_of_chunk l, natural_chunks n (drop record_width l))

pub chunks_length : (n : ℕ) (l : List ℤ) → length (first_chunks record_width n l) ≡ n
chunks_length zero l = refl
chunks_length (suc n) l = ap suc (chunks_length n (drop record_width l))

pub chunks_first : (n m : ℕ) (l : List ℤ) → n ≤ m → take n (first_chunks record_width m l) ≡ first_chunks record_width n l
chunks_first zero m l h = refl
chunks_first (suc n) zero l h = absurd (not-suc-le-zero h)
chunks_first (suc n) (suc m) l h = ap (λ (c : List (List ℤ)). take record_width l ∷ c) (chunks_first n m (drop record_width l) (omega arith))

-- ---- how much there is

pub rows_length : (n : ℕ) (l : List ℤ) → length (rows_of n l) ≡ n
unfolding rows_of
rows_length zero l = refl
rows_length (suc n) l = ap suc (rows_length n (drop record_width l))

pub bytes_rows_length : (y : Layout) (n : ℕ) (l : List ℕ) → length (bytes_rows y n l) ≡ n
unfolding bytes_rows
bytes_rows_length y zero l = refl
bytes_rows_length y (suc n) l = ap suc (bytes_rows_length y n (drop (row_width y) l))

pub row_length : (y : Layout) (r : Row) → length (row_bytes y r) ≡ row_width y
unfolding row_bytes row_width
row_length y r = simp (length-append, length_little)

pub rows_bytes_length : (y : Layout) (rs : List Row) → length (rows_bytes y rs) ≡ row_width y * length rs
unfolding rows_bytes
rows_bytes_length y [] = omega arith
rows_bytes_length y (r ∷ rs) =
    omega (arith, length-append (row_bytes y r) (rows_bytes y rs), row_length y r, rows_bytes_length y rs, mul-suc (row_width y) (length rs))

pub numbers_length : (rs : List Row) → length (rows_numbers rs) ≡ length rs * record_width
numbers_length [] = omega arith
numbers_length (r ∷ rs) = omega (arith, length-append (row_numbers r) (rows_numbers rs), numbers_length rs)
