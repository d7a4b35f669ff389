-- For readers: each refusal of the writer and of the reader is given exactly under its condition, the first that holds in the order of the checks.
-- By cases on the tests. Assumes nothing.
use mathlib.Core.Path.{◌≡◌, refl, sym, ◌∙◌}
use mathlib.Core.Bool.{Bool, true, false, not}
use mathlib.Core.Logic.{◌↔◌}
use mathlib.Core.List.{List}
use Prim.Native.Nat.{ℕ, ◌*◌, ◌≤◌, ◌<◌}
use native.Mathlib.Omega.{arith}
use lib.Dec.{ltb}
use Rattle.std.specs.Prelude.{Ok, Err}
use lib.IntN.{ℤ}
use borrow.Author.Tests.{ltb-true, ltb-false, lt-ltb, le-ltb, not-true, not-false}
use Rattle.base.specs.Choice.{pick}
use Rattle.token.specs.Layout.{record_width}
use Rattle.token.specs.Reason.{reason_ok}
use Rattle.token_file.specs.Rules.{rows_of, rows_ok, largest_column, some_above}
use Rattle.token_file.specs.Format.{version1, file_width, file_count, file_rows, framed}
use Rattle.token_file.specs.Calls.{records_ok, write_answer, read_answer, written_number, loaded_number}
use Rattle.token_file.specs.declared.write.WriteRefusal.TheVariants as write
use Rattle.token_file.specs.declared.read.ReadRefusal.TheVariants as read

-- ---- three tests in a row, each with a number of its own where it fails

abbrev first : ℕ → ℕ → ℕ → Bool → Bool → Bool → ℕ
first x y z a b d = pick a x (pick b y (pick d z 0))

record Distinct (x y z : ℕ) : Type 0 where
  xy : x ≡ y → ⊥
  xz : x ≡ z → ⊥
  yz : y ≡ z → ⊥
  x0 : x ≡ 0 → ⊥
  y0 : y ≡ 0 → ⊥
  z0 : z ≡ 0 → ⊥

module _ {x y z : ℕ} (n : Distinct x y z) where
  at_first : (a b d : Bool) → first x y z a b d ≡ x → a ≡ true
  at_first true b d e = refl
  at_first false true d e = absurd (n.xy (sym e))
  at_first false false true e = absurd (n.xz (sym e))
  at_first false false false e = absurd (n.x0 (sym e))

  at_second : (a b d : Bool) → first x y z a b d ≡ y → (a ≡ false) × (b ≡ true)
  at_second true b d e = absurd (n.xy e)
  at_second false true d e = (refl, refl)
  at_second false false true e = absurd (n.yz (sym e))
  at_second false false false e = absurd (n.y0 (sym e))

  at_third : (a b d : Bool) → first x y z a b d ≡ z → (a ≡ false) × (b ≡ false) × (d ≡ true)
  at_third true b d e = absurd (n.xz e)
  at_third false true d e = absurd (n.yz e)
  at_third false false true e = (refl, refl, refl)
  at_third false false false e = absurd (n.z0 (sym e))

  at_none : (a b d : Bool) → first x y z a b d ≡ 0 → (a ≡ false) × (b ≡ false) × (d ≡ false)
  at_none true b d e = absurd (n.x0 e)
  at_none false true d e = absurd (n.y0 e)
  at_none false false true e = absurd (n.z0 e)
  at_none false false false e = (refl, refl, refl)

-- ---- the writer: 8, 9, 10

module _ (records : List ℤ) (count room : ℕ) where
  abbrev ok : Bool
  ok = records_ok records count

  abbrev long : Bool
  long = some_above largest_column (rows_of count records)

  abbrev short : Bool
  short = ltb room (file_width version1 count)

  write_number : written_number (write_answer records count room) ≡ first 8 9 10 (not ok) long short
  unfolding write_answer
  write_number = go ok long short (file_width version1 count)
    where
      go : (a b d : Bool) (n : ℕ)
          → written_number (pick a (pick b (Err write.LongColumn) (pick d (Err write.NoRoom) (Ok n))) (Err write.BadRecords))
          ≡ first 8 9 10 (not a) b d
      go false b d n = refl
      go true true d n = refl
      go true false true n = refl
      go true false false n = refl

  apart : Distinct 8 9 10
  apart = omega arith

  pub write_8 : (written_number (write_answer records count room) ≡ 8) ↔ (records_ok records count ≡ false)
  write_8 = (
    λ e. not-true _ (at_first apart (not ok) long short (sym write_number ∙ e)),
    λ k. write_number ∙ rw k,
  )

  pub write_9 : (written_number (write_answer records count room) ≡ 9)
      ↔ ((records_ok records count ≡ true) × (some_above largest_column (rows_of count records) ≡ true))
  write_9 = (
    λ e. let t = at_second apart (not ok) long short (sym write_number ∙ e) in (not-false _ t.0, t.1),
    λ k. write_number ∙ rw (k.0, k.1),
  )

  pub write_10 : (written_number (write_answer records count room) ≡ 10)
      ↔ ((records_ok records count ≡ true) × (some_above largest_column (rows_of count records) ≡ false) × (room < file_width version1 count))
  write_10 = (
    λ e. let t = at_third apart (not ok) long short (sym write_number ∙ e) in (not-false _ t.0, t.1, ltb-true _ _ t.2),
    λ k. write_number ∙ rw (k.0, k.1, lt-ltb _ _ k.2),
  )

  pub write_0 : (written_number (write_answer records count room) ≡ 0)
      ↔ ((records_ok records count ≡ true) × (some_above largest_column (rows_of count records) ≡ false) × (file_width version1 count ≤ room))
  write_0 = (
    λ e. let t = at_none apart (not ok) long short (sym write_number ∙ e) in (not-false _ t.0, t.1, ltb-false _ _ t.2),
    λ k. write_number ∙ rw (k.0, k.1, le-ltb _ _ k.2),
  )

-- ---- the reader: 7, 8, 4

module _ (file : List ℕ) (room : ℕ) where
  abbrev right : Bool
  right = framed version1 file

  abbrev kept : Bool
  kept = rows_ok reason_ok 0 (file_rows version1 file)

  abbrev narrow : Bool
  narrow = ltb room (file_count file * record_width)

  read_number : loaded_number (read_answer file room) ≡ first 7 8 4 (not right) (not kept) narrow
  unfolding read_answer
  read_number = go right kept narrow (file_count file)
    where
      go : (a b d : Bool) (n : ℕ)
          → loaded_number (pick a (pick b (pick d (Err read.NoRoom) (Ok n)) (Err read.BadRecords)) (Err read.BadFile))
          ≡ first 7 8 4 (not a) (not b) d
      go false b d n = refl
      go true false d n = refl
      go true true true n = refl
      go true true false n = refl

  apart_read : Distinct 7 8 4
  apart_read = omega arith

  pub read_7 : (loaded_number (read_answer file room) ≡ 7) ↔ (framed version1 file ≡ false)
  read_7 = (
    λ e. not-true _ (at_first apart_read (not right) (not kept) narrow (sym read_number ∙ e)),
    λ k. read_number ∙ rw k,
  )

  pub read_8 : (loaded_number (read_answer file room) ≡ 8) ↔ ((framed version1 file ≡ true) × (rows_ok reason_ok 0 (file_rows version1 file) ≡ false))
  read_8 = (
    λ e. let t = at_second apart_read (not right) (not kept) narrow (sym read_number ∙ e) in (not-false _ t.0, not-true _ t.1),
    λ k. read_number ∙ rw (k.0, k.1),
  )

  pub read_4 : (loaded_number (read_answer file room) ≡ 4)
      ↔ ((framed version1 file ≡ true) × (rows_ok reason_ok 0 (file_rows version1 file) ≡ true) × (room < file_count file * record_width))
  read_4 = (
    λ e. let t = at_third apart_read (not right) (not kept) narrow (sym read_number ∙ e) in (not-false _ t.0, not-false _ t.1, ltb-true _ _ t.2),
    λ k. read_number ∙ rw (k.0, k.1, lt-ltb _ _ k.2),
  )

  pub read_0 : (loaded_number (read_answer file room) ≡ 0)
      ↔ ((framed version1 file ≡ true) × (rows_ok reason_ok 0 (file_rows version1 file) ≡ true) × (file_count file * record_width ≤ room))
  read_0 = (
    λ e. let t = at_none apart_read (not right) (not kept) narrow (sym read_number ∙ e) in (not-false _ t.0, not-false _ t.1, ltb-false _ _ t.2),
    λ k. read_number ∙ rw (k.0, k.1, le-ltb _ _ k.2),
  )
