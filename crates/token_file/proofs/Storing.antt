-- For `put_rows` and `Framed::store`: what is left to store, stored from here on, makes the whole. A turn stores one row. Any layout. Assumes nothing.
use mathlib.Core.Path.{◌≡◌, refl, sym, ◌∙◌}
use mathlib.Core.List.{List, ◌++◌}
use Prim.Native.Nat.{ℕ, ◌+◌, ◌*◌, ◌≤◌}
use native.Mathlib.Omega.{arith}
use lib.IntN.{ℤ}
use lib.ListN.{length, drop}
use lib.Seq.{sets}
use Rattle.std.proofs.lemmas.List.{at_drop_all}
use Rattle.base.proofs.Stores.{sets_append}
use Rattle.token.specs.Layout.{record_width}
use Rattle.token_file.specs.Rules.{row_numbers, rows_numbers}
use Rattle.token_file.specs.Format.{header_width, row_width, row_bytes, rows_bytes, file_width}
use Rattle.token_file.specs.declared.row.Row.{Row}
use Rattle.token_file.specs.declared.layout.Layout.{Layout}
use Rattle.token_file.proofs.Pieces.{Next, row_length, next_width}

-- a piece is stored, and then what comes after it
piece : {A : Type 0} (out : List A) (to : ℕ) (vs ws : List A) {size : ℕ} {all : List A} → length vs ≡ size → sets out to (vs ++ ws) ≡ all
    → sets (sets out to vs) (to + size) ws ≡ all
piece out to vs ws n h = rw (← n) (sym (sets_append out to vs ws) ∙ h)

-- ---- rows written

-- the rows from i on are still to be written
pub record Putting (y : Layout) (rs : List Row) (out : List ℕ) (i : ℕ) (all : List ℕ) : Type 0 where
  pub rest : sets out (file_width y i) (rows_bytes y (drop i rs)) ≡ all

pub put_rows_start : (y : Layout) (rs : List Row) (out : List ℕ) → Putting y rs out 0 (sets out header_width (rows_bytes y rs))
unfolding file_width
put_rows_start y rs out = let e : header_width + row_width y * 0 ≡ header_width = omega arith in record { rest = rw e }

module _ {y : Layout} {rs : List Row} {out : List ℕ} {i : ℕ} {all : List ℕ} (w : Putting y rs out i all) where
  pub put_rows_turn : {r : Row} → Next rs i r → {out' : List ℕ} → out' ≡ sets out (file_width y i) (row_bytes y r) → Putting y rs out' (i + 1) all
  unfolding rows_bytes
  put_rows_turn {r} n e =
      record { rest = rw (e, next_width y i) (piece out (file_width y i) (row_bytes y r) _ (row_length y r) (rw n at w.rest)) }

  pub put_rows_end : length rs ≤ i → out ≡ all
  unfolding rows_bytes
  put_rows_end h = rw (at_drop_all (λ (q : List Row). sets out (file_width y i) (rows_bytes y q)) rs i h) at w.rest

-- ---- rows stored

-- the records of the rows from i on are still to be stored
pub record Storing (rs : List Row) (tokens : List ℤ) (i : ℕ) (all : List ℤ) : Type 0 where
  pub rest : sets tokens (i * record_width) (rows_numbers (drop i rs)) ≡ all

module _ {rs : List Row} {tokens : List ℤ} {i : ℕ} {all : List ℤ} (w : Storing rs tokens i all) where
  pub store_rows_turn : {r : Row} → Next rs i r → {tokens' numbers : List ℤ} → numbers ≡ row_numbers r → tokens' ≡ sets tokens (i * record_width) numbers
      → Storing rs tokens' (i + 1) all
  store_rows_turn {r} n en e =
      let k : (i + 1) * record_width ≡ i * record_width + record_width = omega arith in
      record { rest = rw (e, en, k) (piece tokens (i * record_width) (row_numbers r) (rows_numbers (drop (i + 1) rs)) refl (rw n at w.rest)) }

  pub store_rows_end : length rs ≤ i → tokens ≡ all
  store_rows_end h = rw (at_drop_all (λ (q : List Row). sets tokens (i * record_width) (rows_numbers q)) rs i h) at w.rest
