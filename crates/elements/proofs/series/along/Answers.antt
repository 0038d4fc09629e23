-- `elements::series::along` meets its contract: near of a product below 2^56, by an even divisor.
use Prim.Native.Nat.{◌*◌, ◌^◌, ◌≤◌}
use native.Mathlib.Omega.{arith}
use native.Mathlib.Nat.{mul-le-mul}
use Rattle.integers.specs.Signs.{with_sign}
use Rattle.rounding.proofs.Quotients.{lowered_0}
use Rattle.elements.proofs.series.along.Goals.{Start}
use Rattle.elements.proofs.series.along.Goals as goal

product_small : (c : Start) → 100 * c.args.length * c.args.f ≤ 50000000 * 2 ^ 30
product_small c = mul-le-mul {n₁ = 100 * c.args.length} {m₁ = c.args.f} {n₂ = 50000000} {m₂ = 2 ^ 30} (omega arith) c.requires.1

pub overflow_mul-length-2 : goal.overflow_mul-length-2
overflow_mul-length-2 c = omega (arith, product_small c)

pub near_even-requires : goal.near_even-requires
near_even-requires c = omega (arith, product_small c)

pub returns : goal.returns
unfolding with_sign
returns c = c.near_even.ensures 0 (omega arith) lowered_0
