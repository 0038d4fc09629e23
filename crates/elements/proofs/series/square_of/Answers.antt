-- `elements::series::square_of` meets its contract: the square of at most ONE / 2 is at most ONE / 4.
use Prim.Native.Nat.{◌*◌, ◌^◌, ◌≤◌}
use native.Mathlib.Omega.{arith}
use native.Mathlib.Nat.{mul-le-mul}
use Rattle.integers.specs.Signs.{with_sign}
use Rattle.model.specs.Series.{square_of}
use Rattle.rounding.proofs.Quotients.{lowered_0, near_at_most}
use Rattle.elements.proofs.series.square_of.Goals.{Start}
use Rattle.elements.proofs.series.square_of.Goals as goal

square_small : (c : Start) → c.args.angle * c.args.angle ≤ 2 ^ 30 * 2 ^ 28
square_small c = mul-le-mul {n₁ = c.args.angle} {m₁ = c.args.angle} {n₂ = 2 ^ 29} {m₂ = 2 ^ 29} c.requires c.requires

pub overflow_mul-angle : goal.overflow_mul-angle
overflow_mul-angle c = omega (arith, square_small c)

pub near_even-requires : goal.near_even-requires
near_even-requires c = omega (arith, square_small c)

pub returns : goal.returns
unfolding square_of with_sign
returns c = record { result_value = c.near_even.ensures 0 (omega arith) lowered_0; small = near_at_most _ _ _ (2 ^ 28) (omega arith) (omega arith) c.near_even.ensures (square_small c.before) }
