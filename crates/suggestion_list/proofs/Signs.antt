-- For the order of entries and `place_for`: laws of the test that a signed number is less. By linear arithmetic. Assumes nothing.
use Rattle.std.proofs.Common.{◌≡◌, true, false, arith}
use Rattle.std.proofs.lemmas.Int.{ints}
use lib.IntN.{ℤ}
use lib.Signed.{lt_z, ◌<ℤ◌, lt_z_yes}
use Rattle.base.proofs.Tests.{by_cases}

-- the test and the order
pub less : {a b : ℤ} → lt_z a b ≡ true → a <ℤ b
less e = lt_z_yes (rw e tt)

pub less_test : {a b : ℤ} → a <ℤ b → lt_z a b ≡ true
less_test {a} {b} l = by_cases (lt_z a b) (λ e. e) (λ e. absurd (rw e at l.lt))

-- no number is less than itself
pub not_itself : (a : ℤ) → lt_z a a ≡ false
not_itself a = grind (arith, ints)

-- of two numbers only one is less, and where none is they are the same
pub not_both : (a b : ℤ) → lt_z a b ≡ true → lt_z b a ≡ false
not_both a b e = grind (arith, ints)

pub same : (a b : ℤ) → lt_z a b ≡ false → lt_z b a ≡ false → a ≡ b
same a b p q = grind (arith, ints)

-- a < b and b ≤ c; b ≤ a and c ≤ b
pub less_on : (a b c : ℤ) → lt_z a b ≡ true → lt_z c b ≡ false → lt_z a c ≡ true
less_on a b c p q = grind (arith, ints)

pub no_less_on : (a b c : ℤ) → lt_z a b ≡ false → lt_z b c ≡ false → lt_z a c ≡ false
no_less_on a b c p q = grind (arith, ints)
