-- For the tests of alphabet.rt: each agrees with the alphabets' lists at every byte, by one test that antt computes. Assumes nothing.
use mathlib.Core.Path.{◌≡◌}
use mathlib.Core.Bool.{◌||◌}
use Prim.Native.Nat.{ℕ, ◌<◌}
use Rattle.std.specs.Char.{is_ascii_alphanumeric}
use lib.Dec.{eqb}
use Rattle.base.proofs.ByteKinds.{tests_agree}
use Rattle.base64_lenient.specs.Rfc4648.{standard, url_safe}
use Rattle.base64_lenient.specs.Lenient.{value_in, is_in}
use Rattle.base64_lenient.specs.Helpers.{in_both}

pub both_test : (b : ℕ) → b < 256 → is_ascii_alphanumeric b ≡ in_both b
unfolding in_both value_in
both_test = tests_agree is_ascii_alphanumeric in_both tt

pub standard_test : (b : ℕ) → b < 256 → (in_both b || eqb b 43) || eqb b 47 ≡ is_in standard b
unfolding in_both value_in
standard_test = tests_agree (λ (b : ℕ). (in_both b || eqb b 43) || eqb b 47) (is_in standard) tt

pub url_test : (b : ℕ) → b < 256 → (in_both b || eqb b 45) || eqb b 95 ≡ is_in url_safe b
unfolding in_both value_in
url_test = tests_agree (λ (b : ℕ). (in_both b || eqb b 45) || eqb b 95) (is_in url_safe) tt
