-- For `put_row`, `put_header`, `get_row` and `Framed::parse`: one row, or the header, as the code reads and writes it, is what the definition says. By
-- rewriting, for the offsets of any layout. Assumes nothing.
use mathlib.Core.Path.{◌≡◌, refl}
use mathlib.Core.Bool.{Bool, false, ◌&&◌}
use mathlib.Core.List.{List, [], ◌∷◌, ◌++◌, append_assoc}
use Prim.Native.Nat.{ℕ, ◌+◌, ◌*◌, ◌≤◌, ◌<◌, ◌^◌}
use native.Mathlib.Nat.{add-zero, add_assoc, mul-le-mul_right}
use native.Mathlib.Omega.{arith}
use lib.Dec.{eqb}
use lib.ListN.{length, get_or, take}
use lib.Seq.{sets, drop-drop, get_or-take}
use borrow.Author.Tests.{le-leb, lt-leb}
use Rattle.base.specs.Bytes.{same_bytes}
use Rattle.token_file.specs.Format.{little, unlittle, number_at, file_mark, row_width, row_bytes, header, bytes_row, file_width, file_count, framed}
use Rattle.token_file.specs.Fits.{RowRead, offsets}
use Rattle.token_file.specs.declared.row.Row.{Row}
use Rattle.token_file.specs.declared.layout.Layout.{Layout}
use Rattle.token_file.specs.declared.layout.Offsets.{Offsets}
use Rattle.token_file.proofs.Numbers.{length_little, below_63, number_cons}
use Rattle.base.proofs.Tests.{and-true}
use Rattle.base.proofs.Stores.{Stored, stored_then}

-- ---- to bytes

-- a number is written, and then the rest from its end on
put_then : {l l₁ l₂ : List ℕ} {i : ℕ} (w n : ℕ) {ws : List ℕ} → l₁ ≡ sets l i (little w n) → Stored l₁ (i + w) ws l₂ → Stored l i (little w n ++ ws) l₂
put_then w n e q = stored_then {vs = little w n} (record { is = e }) (rw (length_little w n)) q

module _ (y : Layout) (r : Row) (at : ℕ) {o : Offsets} (e : o ≡ offsets y at) (l : List ℕ) {l₁ l₂ l₃ l₄ l₅ l₆ : List ℕ} where
  pub row_put : l₁ ≡ sets l o.kind (little y.kind r.kind) → l₂ ≡ sets l₁ o.reason (little y.reason r.reason)
      → l₃ ≡ sets l₂ o.start (little y.start r.start) → l₄ ≡ sets l₃ o.end (little y.end r.end)
      → l₅ ≡ sets l₄ o.line (little y.line r.line) → l₆ ≡ sets l₅ o.column (little y.column r.column)
      → l₆ ≡ sets l at (row_bytes y r)
  unfolding row_bytes
  row_put p₁ p₂ p₃ p₄ p₅ p₆ =
      simp append_assoc (put_then y.kind r.kind (rw e at p₁) (put_then y.reason r.reason (rw e at p₂) (put_then y.start r.start (rw e at p₃)
      (put_then y.end r.end (rw e at p₄) (put_then y.line r.line {ws = little y.column r.column} (rw e at p₅) (record { is = rw e at p₆ })))))).is

pub header_put : (y : Layout) (n : ℕ) (l : List ℕ) {l₁ l₂ : List ℕ} → l₁ ≡ sets (sets l 0 file_mark) 3 (little 2 y.version)
    → l₂ ≡ sets l₁ 5 (little 4 n) → l₂ ≡ sets l 0 (header y n)
unfolding header
header_put y n l p₁ p₂ =
    (stored_then {l = l} {i = 0} {vs = file_mark} (record { is = refl }) refl (put_then 2 y.version p₁ (record { is = p₂ }))).is

-- ---- from bytes

module _ (y : Layout) (l : List ℕ) (at : ℕ) {o : Offsets} (eo : o ≡ offsets y at) where
  -- what reading a number gives
  abbrev Read : ℕ → ℕ → ℕ → Type 0
  Read p w x = (x ≡ number_at l p w) × (x < 256 ^ w)

  pub row_read : {k r s e n c : ℕ} → Read o.kind y.kind k → Read o.reason y.reason r → Read o.start y.start s → Read o.end y.end e
      → Read o.line y.line n → Read o.column y.column c
      → RowRead y l at (record { kind = k; reason = r; start = s; end = e; line = n; column = c })
  unfolding bytes_row
  row_read pk pr ps pe pn pc =
      let m = y.narrow in
      record {
        is = rw (pk.0, pr.0, ps.0, pe.0, pn.0, pc.0, eo) (simp (drop-drop, add_assoc, add-zero));
        small = record {
          kind = below_63 m.0 pk.1;
          reason = below_63 m.1 pr.1;
          start = below_63 m.2 ps.1;
          end = below_63 m.3 pe.1;
          line = below_63 m.4 pn.1;
          column = below_63 m.5 pc.1;
        };
      }

-- ---- the frame

row_width_le : (y : Layout) → row_width y ≤ 42
unfolding row_width
row_width_le y = omega (arith, y.narrow)

-- the width of a file whose count has 32 bits fits 64
pub file_fits : (y : Layout) (n : ℕ) → n < 0x100000000 → file_width y n < 2 ^ 64
unfolding file_width
file_fits y n s = omega (arith, mul-le-mul_right n (row_width_le y))

mark_is : (l : List ℕ) → 3 ≤ length l → same_bytes (take 3 l) file_mark ≡ eqb (get_or l 0 0) 79 && (eqb (get_or l 1 0) 70 && eqb (get_or l 2 0) 84)
unfolding same_bytes
mark_is [] h = absurd (omega arith)
mark_is (a ∷ []) h = absurd (omega arith)
mark_is (a ∷ (b ∷ [])) h = absurd (omega arith)
mark_is (a ∷ (b ∷ (c ∷ l))) h = rw (and-true (eqb c 84))

version_is : (l : List ℕ) → 9 ≤ length l → number_at l 3 2 ≡ get_or l 3 0 + get_or l 4 0 * 256
unfolding unlittle
version_is l h = omega (arith, number_cons l 3 1 (omega arith), number_cons l 4 0 (omega arith))

count_is : (l : List ℕ) → 9 ≤ length l → file_count l ≡ get_or l 5 0 + get_or l 6 0 * 256 + get_or l 7 0 * 65536 + get_or l 8 0 * 16777216
unfolding unlittle file_count
count_is l h =
    omega (arith, number_cons l 5 3 (omega arith), number_cons l 6 2 (omega arith), number_cons l 7 1 (omega arith), number_cons l 8 0 (omega arith))

module _ (y : Layout) (l : List ℕ) where
  pub short_framed : length l < 9 → framed y l ≡ false
  unfolding framed
  short_framed h = rw (lt-leb 9 (length l) h)

  -- the first nine bytes
  module _ (h : 9 ≤ length l) {s : List ℕ} (e : s ≡ take 9 l) where
    front : (k : ℕ) → k < 9 → get_or s k 0 ≡ get_or l k 0
    front k m = rw e (get_or-take 9 l k 0 m)

    pub count_read : {n : ℕ} → n ≡ get_or s 5 0 + get_or s 6 0 * 256 + get_or s 7 0 * 65536 + get_or s 8 0 * 16777216 → n ≡ file_count l
    count_read q = omega (arith, q, front 5 (omega arith), front 6 (omega arith), front 7 (omega arith), front 8 (omega arith), count_is l h)

    version_read : {v : ℕ} → v ≡ get_or s 3 0 + get_or s 4 0 * 256 → v ≡ number_at l 3 2
    version_read q = omega (arith, q, front 3 (omega arith), front 4 (omega arith), version_is l h)

    pub framed_is : {v n w : ℕ} → v ≡ get_or s 3 0 + get_or s 4 0 * 256
        → n ≡ get_or s 5 0 + get_or s 6 0 * 256 + get_or s 7 0 * 65536 + get_or s 8 0 * 16777216 → w ≡ file_width y n → {b : Bool}
        → (eqb (get_or s 0 0) 79 && (eqb (get_or s 1 0) 70 && eqb (get_or s 2 0) 84)) && (eqb v y.version && eqb (length l) w) ≡ b → framed y l ≡ b
    unfolding framed
    framed_is ev en ew t =
        rw (
          le-leb 9 (length l) h,
          mark_is l (omega arith),
          ← t,
          ew,
          ← count_read en,
          ← version_read ev,
          front 0 (omega arith),
          front 1 (omega arith),
          front 2 (omega arith),
        )
