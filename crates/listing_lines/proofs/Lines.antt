-- For the loops over lines and for `list`: how long lines are, what is left of a line after some numbers and of a slice's rows after some records,
-- and that the rows of a slice that holds records are the lines of these. By induction on the list. Assumes nothing.
use mathlib.Core.Path.{◌≡◌, refl, sym}
use mathlib.Core.List.{List, [], ◌∷◌, ◌++◌, append_assoc}
use Prim.Native.Nat.{ℕ, zero, suc, ◌+◌, ◌-◌, ◌*◌, ◌≤◌, ◌<◌}
use native.Mathlib.Numerals.{add-one}
use native.Mathlib.Omega.{arith}
use lib.IntN.{ℤ, pos}
use lib.ListN.{length, take, drop, get_or, length-append, length-drop, drop_of_length-le}
use lib.Seq.{drop-cons, get_or-take}
use borrow.Author.Rules.{rules}
use Rattle.std.specs.Simd.{first_chunks}
use Rattle.notation.specs.Decimal.{number_text, separator}
use Rattle.notation.proofs.Digits.{number_most}
use Rattle.token.specs.Layout.{record_width}
use Rattle.token.specs.declared.layout.Record.{Record}
use Rattle.reading.specs.Buffers.{record_rows}
use Rattle.listing_lines.specs.Lines.{line_text, lines_of, refused_line}
use Rattle.listing_lines.specs.Rows.{line_at, rows_lines}

-- ---- one line

line_more : (z : ℤ) (zs : List ℤ) → line_text (z ∷ zs) ≡ (number_text z ++ (separator (length zs) ∷ [])) ++ line_text zs
unfolding line_text
line_more z zs = sym (append_assoc (number_text z) (separator (length zs) ∷ []) (line_text zs))

-- the number at k and what follows it
abbrev pub number_at : List ℤ → ℕ → List ℕ
number_at row k = number_text (get_or row k (pos 0)) ++ (separator (length row - (k + 1)) ∷ [])

pub number_length : (row : List ℤ) (k : ℕ) → length (number_at row k) ≡ length (number_text (get_or row k (pos 0))) + 1
number_length row k = length-append (number_text (get_or row k (pos 0))) _

-- what is left of a line from k on
pub line_at_lem : (row : List ℤ) (k : ℕ) → k < length row → line_text (drop k row) ≡ number_at row k ++ line_text (drop (k + 1) row)
line_at_lem row k h =
    let e : k + 1 ≡ suc k = add-one k in
    let d : drop k row ≡ get_or row k (pos 0) ∷ drop (k + 1) row = rw e (drop-cons row k (pos 0) h) in
    rw (d, line_more, length-drop)

pub line_done : (row : List ℤ) (k : ℕ) → length row ≤ k → line_text (drop k row) ≡ []
unfolding line_text
line_done row k h = rw (drop_of_length-le row h)

-- a line has at most 22 bytes for each number
pub line_most : (zs : List ℤ) → length (line_text zs) ≤ length zs * 22
unfolding line_text
line_most [] = omega arith
line_most (z ∷ zs) = omega (arith, length-append (number_text z) (separator (length zs) ∷ line_text zs), number_most z, line_most zs)

pub refused_length : (n : ℕ) → length (refused_line n) ≡ 9 + length (number_text (pos n))
unfolding line_text
refused_length n = omega (arith, length-append (number_text (pos n)) (0x0A ∷ []))

-- ---- the lines of records

-- what is left of them from the record i on
pub rows_at : (rs : List (List ℤ)) (i : ℕ) → i < length rs → rows_lines (drop i rs) ≡ line_text (line_at (get_or rs i [])) ++ rows_lines (drop (i + 1) rs)
unfolding rows_lines
rows_at rs i h = let e : i + 1 ≡ suc i = add-one i in rw (e, drop-cons rs i [] h)

pub rows_done : (rs : List (List ℤ)) (i : ℕ) → length rs ≤ i → rows_lines (drop i rs) ≡ []
unfolding rows_lines
rows_done rs i h = rw (drop_of_length-le rs h)

-- the first of the arrays that a slice has
pub first_of_chunks : (n k : ℕ) (T : List ℤ) → n ≤ k → take n (first_chunks record_width k T) ≡ first_chunks record_width n T
first_of_chunks zero k T h = refl
first_of_chunks (suc n) zero T h = absurd (omega arith)
first_of_chunks (suc n) (suc k) T h = rw (first_of_chunks n k (drop record_width T) (omega arith))

-- records that a slice begins with, as arrays: their lines are those of the records
line_of_chunk : (T : List ℤ) → line_at (take record_width T) ≡ line_at T
line_of_chunk T = search (rules, get_or-take)

pub rows_held : (rs : List Record) (rest : List ℤ) → rows_lines (first_chunks record_width (length rs) (record_rows rs ++ rest)) ≡ lines_of rs
unfolding rows_lines record_rows lines_of
rows_held [] rest = refl
rows_held (r ∷ rs) rest = rw (rows_held rs rest)
