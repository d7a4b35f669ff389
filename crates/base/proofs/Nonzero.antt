-- For utf8, triple_strings and go_duration: a number that is none where it is 0. By cases on it. Assumes nothing.
use mathlib.Core.Path.{◌≡◌, refl}
use Prim.Native.Nat.{ℕ, zero, suc, ◌<◌}
use native.Mathlib.Omega.{arith}
use lib.Dec.{eqb-suc-zero}
use Rattle.std.specs.Prelude.{Option, Some, None}
use Rattle.base.specs.Helpers.{nonzero}

pub zero_none : (n : ℕ) → n ≡ 0 → None ≡ nonzero n
zero_none n e = rw e

pub more_some : (n : ℕ) → 0 < n → Some n ≡ nonzero n
more_some zero h = absurd (omega arith)
more_some (suc n) h = rw (eqb-suc-zero n)

pub none_zero : (n : ℕ) → None ≡ nonzero n → n ≡ 0
none_zero zero e = refl
none_zero (suc n) e = let q : ◌≡◌ {A = Option ℕ} None (Some (suc n)) = rw (eqb-suc-zero n) at e in cc

pub some_same : (n m : ℕ) → Some m ≡ nonzero n → n ≡ m
some_same zero m e = cc
some_same (suc n) m e = let q : ◌≡◌ {A = Option ℕ} (Some m) (Some (suc n)) = rw (eqb-suc-zero n) at e in cc

pub some_more : (n m : ℕ) → Some m ≡ nonzero n → 0 < m
some_more zero m e = let q : ◌≡◌ {A = ℕ} 0 1 = cc in absurd (omega arith)
some_more (suc n) m e = let q : suc n ≡ m = some_same (suc n) m e in omega arith
