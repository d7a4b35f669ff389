-- For `RoundFiles` and `RoundCalls`: rows to bytes and back, and bytes to rows and back, for any layout with room for the numbers. A row's number
-- stands after the bytes of the numbers before it. By induction on the rows. Assumes nothing.
use mathlib.Core.Path.{◌≡◌, refl, sym, ap, ◌∙◌}
use mathlib.Core.Bool.{true}
use mathlib.Core.List.{List, [], ◌∷◌, ◌++◌, append_assoc}
use Prim.Native.Nat.{ℕ, zero, suc, ◌+◌, ◌*◌, ◌≤◌, ◌<◌, ◌^◌}
use native.Mathlib.Nat.{mul-suc, pow-le-pow_right}
use native.Mathlib.Omega.{arith}
use lib.IntN.{ℤ}
use lib.ListN.{length, take, drop, length-take, length-drop}
use lib.Seq.{take_at, drop_at, drop-drop, take-add, length-take-le}
use Rattle.base.specs.Bytes.{AreBytes}
use Rattle.token_file.specs.Rules.{row_at, rows_of, natural_row, natural_rows, rows_numbers}
use Rattle.token_file.specs.Format.{little, number_at, row_width, row_bytes, rows_bytes, bytes_row, bytes_rows}
use Rattle.token_file.specs.Fits.{RowFits, RowsFit}
use Rattle.token_file.specs.declared.row.Row.{Row}
use Rattle.token_file.specs.declared.layout.Layout.{Layout}
use Rattle.token_file.proofs.Numbers.{bytes_drop, bytes_take, length_little, unlittle_little, little_unlittle, unlittle_lt}
use Rattle.token_file.proofs.Pieces.{row_length}

-- ---- rows, written and read

module _ (l : List ℕ) (p w n : ℕ) (rest : List ℕ) (d : drop p l ≡ little w n ++ rest) where
  -- the number that stands at p, and what follows it
  number_here : n < 256 ^ w → number_at l p w ≡ n
  number_here h = rw (d, take_at (little w n) rest w (length_little w n)) (unlittle_little w n h)

  number_after : drop (p + w) l ≡ rest
  number_after = sym (drop-drop w p l) ∙ rw d (drop_at (little w n) rest w (length_little w n))

row_back : (y : Layout) (r : Row) (rest : List ℕ) → RowFits y r → bytes_row y (row_bytes y r ++ rest) ≡ r
unfolding row_bytes bytes_row
row_back y r rest h =
    let l = row_bytes y r ++ rest in
    -- the row's bytes from each number on
    let column = little y.column r.column ++ rest in
    let line = little y.line r.line ++ column in
    let end = little y.end r.end ++ line in
    let start = little y.start r.start ++ end in
    let reason = little y.reason r.reason ++ start in
    let d₁ : drop 0 l ≡ little y.kind r.kind ++ reason = simp append_assoc in
    let d₂ : drop y.kind l ≡ reason = rw d₁ (drop_at (little y.kind r.kind) reason y.kind (length_little y.kind r.kind)) in
    let d₃ = number_after l y.kind y.reason r.reason start d₂ in
    let d₄ = number_after l (y.kind + y.reason) y.start r.start end d₃ in
    let d₅ = number_after l (y.kind + y.reason + y.start) y.end r.end line d₄ in
    let d₆ = number_after l (y.kind + y.reason + y.start + y.end) y.line r.line column d₅ in
    λ i. record {
      kind = number_here l 0 y.kind r.kind reason d₁ h.kind i;
      reason = number_here l y.kind y.reason r.reason start d₂ h.reason i;
      start = number_here l (y.kind + y.reason) y.start r.start end d₃ h.start i;
      end = number_here l (y.kind + y.reason + y.start) y.end r.end line d₄ h.end i;
      line = number_here l (y.kind + y.reason + y.start + y.end) y.line r.line column d₅ h.line i;
      column = number_here l (y.kind + y.reason + y.start + y.end + y.line) y.column r.column rest d₆ h.column i;
    }

pub rows_back : (y : Layout) (rs : List Row) (rest : List ℕ) → RowsFit y rs → bytes_rows y (length rs) (rows_bytes y rs ++ rest) ≡ rs
unfolding bytes_rows rows_bytes
rows_back y [] rest h = refl
rows_back y (r ∷ rs) rest (RowsFit.some f g) =
    let t = rows_bytes y rs ++ rest in
    rw (append_assoc (row_bytes y r) (rows_bytes y rs) rest, row_back y r t f, drop_at (row_bytes y r) t (row_width y) (row_length y r), rows_back y rs rest g)

-- ---- bytes, read and written

module _ (l : List ℕ) (h : AreBytes l) where
  -- a number that was read has room in its bytes, and is written as those bytes
  number_fits : (p w : ℕ) → number_at l p w < 256 ^ w
  number_fits p w =
      let s = take w (drop p l) in
      let a = unlittle_lt s (bytes_take w (drop p l) (bytes_drop p l h)) in
      let m : 256 ^ length s ≤ 256 ^ w = pow-le-pow_right (omega arith) {j = w} (omega (arith, length-take w (drop p l))) in
      omega arith

  pub number_forth : (p w : ℕ) → p + w ≤ length l → little w (number_at l p w) ≡ take w (drop p l)
  number_forth p w r =
      let s = take w (drop p l) in
      let n : length s ≡ w = length-take-le w (drop p l) (omega (arith, length-drop p l)) in
      rw n at (little_unlittle s (bytes_take w (drop p l) (bytes_drop p l h)))

  pub row_fits : (y : Layout) → RowFits y (bytes_row y l)
  unfolding bytes_row
  row_fits y = search number_fits

  pub row_forth : (y : Layout) → row_width y ≤ length l → row_bytes y (bytes_row y l) ≡ take (row_width y) l
  unfolding row_bytes bytes_row row_width
  row_forth y r =
      rw (
        number_forth 0 y.kind (omega arith),
        number_forth y.kind y.reason (omega arith),
        number_forth (y.kind + y.reason) y.start (omega arith),
        number_forth (y.kind + y.reason + y.start) y.end (omega arith),
        number_forth (y.kind + y.reason + y.start + y.end) y.line (omega arith),
        number_forth (y.kind + y.reason + y.start + y.end + y.line) y.column (omega arith),
        take-add (y.kind + y.reason + y.start + y.end + y.line) y.column l,
        take-add (y.kind + y.reason + y.start + y.end) y.line l,
        take-add (y.kind + y.reason + y.start) y.end l,
        take-add (y.kind + y.reason) y.start l,
        take-add y.kind y.reason l,
      )

pub rows_fit : (y : Layout) (n : ℕ) (l : List ℕ) → AreBytes l → RowsFit y (bytes_rows y n l)
unfolding bytes_rows
rows_fit y zero l h = RowsFit.none
rows_fit y (suc n) l h = RowsFit.some (row_fits l h y) (rows_fit y n (drop (row_width y) l) (bytes_drop (row_width y) l h))

pub rows_forth : (y : Layout) (n : ℕ) (l : List ℕ) → AreBytes l → row_width y * n ≤ length l → rows_bytes y (bytes_rows y n l) ≡ take (row_width y * n) l
unfolding bytes_rows rows_bytes
rows_forth y zero l h r = let e : row_width y * 0 ≡ 0 = omega arith in rw e
rows_forth y (suc n) l h r =
    let w = row_width y in
    let e : w * suc n ≡ w + w * n = omega (arith, mul-suc w n) in
    let a = row_forth l h y (omega arith) in
    let b = rows_forth y n (drop w l) (bytes_drop w l h) (omega (arith, length-drop w l)) in
    rw (e, take-add w (w * n) l, a, b)

-- ---- records, made of rows and taken apart

-- "Reading fills the other six numbers with 0": the six kept ones come back
pub kept_back : (rs : List Row) (rest : List ℤ) → rows_of (length rs) (rows_numbers rs ++ rest) ≡ rs
unfolding rows_of row_at
kept_back [] rest = refl
kept_back (r ∷ rs) rest = ap (λ (q : List Row). r ∷ q) (kept_back rs rest)

pub natural_back : (rs : List Row) (rest : List ℤ) → natural_rows (length rs) (rows_numbers rs ++ rest) ≡ true
unfolding natural_rows natural_row
natural_back [] rest = refl
natural_back (r ∷ rs) rest = natural_back rs rest
