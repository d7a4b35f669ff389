-- `put_three` meets its contract: the three stores are those of the list. Assumes nothing.
use mathlib.Core.Path.{◌≡◌}
use Prim.Native.Nat.{suc, ◌+◌}
use native.Mathlib.Omega.{arith}
use Rattle.base64_lenient.specs.Lenient.{regroup}
use Rattle.base64_lenient.proofs.decode.put_three.Goals as goal

pub returns : goal.returns
unfolding regroup
returns c = let e₁ : c.args.at + 1 ≡ suc c.args.at = omega arith in
    let e₂ : c.args.at + 2 ≡ suc (suc c.args.at) = omega arith in
    rw (e₁, e₂)
