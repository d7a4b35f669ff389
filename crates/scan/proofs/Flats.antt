-- For names and numbers: a run stays on its line where a newline fails its test. Assumes nothing.
use mathlib.Core.Path.{◌≡◌}
use mathlib.Core.Bool.{Bool, true, false}
use mathlib.Core.List.{List}
use Prim.Native.Nat.{ℕ, ◌+◌, ◌≤◌, ◌<◌}
use native.Mathlib.Omega.{arith}
use borrow.Author.Tests.{ltb-true, ltb-false}
use lib.Dec.{ltb}
use Rattle.base.specs.Bytes.{byte}
use Rattle.base.specs.Runs.{reach}
use Rattle.base.proofs.Reaches.{reach_all}
use Rattle.base.proofs.Tests.{by_cases, true_false}
use Rattle.token.specs.Helpers.{Flat}

module _ (s : List ℕ) where
  pub flat_none : Flat s 0
  flat_none j h e = absurd (omega arith)

  -- from i on to e there is no newline
  flat_more : {i e : ℕ} → ((j : ℕ) → i ≤ j → j < e → byte s j ≡ 10 → ⊥) → Flat s i → Flat s e
  flat_more {i} none f j h q = by_cases (ltb j i) (λ r. f j (ltb-true j i r) q) (λ r. none j (ltb-false j i r) h q)

  pub flat_byte : (p : ℕ → Bool) → p 10 ≡ false → (i : ℕ) → p (byte s i) ≡ true → Flat s i → Flat s (i + 1)
  flat_byte p z i e = flat_more (λ j l h q. let m : i ≡ j = omega arith in true_false (p 10) (rw (m, q) at e) z)

  pub flat_run : (p : ℕ → ℕ → Bool) → ((b : ℕ) → p 10 b ≡ false) → (i : ℕ) → Flat s i → Flat s (reach p s i)
  flat_run p z i = flat_more (λ j l h q. true_false (p 10 (byte s (j + 1))) (rw q at (reach_all p s i j l h)) (z (byte s (j + 1))))
