-- `elements::series::direction` meets its contract: both factors are those of the square, which does not see the sign of the angle.
use Prim.Native.Nat.{◌*◌, ◌^◌, ◌≤◌}
use native.Mathlib.Omega.{arith}
use native.Mathlib.Nat.{mul-le-mul}
use Rattle.elements.proofs.Steps.{direction_at_lem}
use Rattle.elements.proofs.series.direction.Goals.{After-factor_of-2}
use Rattle.elements.proofs.series.direction.Goals as goal

product_small : (c : After-factor_of-2) → c.args.angle * c.factor_of-2.result ≤ 2 ^ 29 * 2 ^ 30
product_small c = mul-le-mul c.requires.widest c.factor_of-2.ensures.small

pub overflow_mul-angle : goal.overflow_mul-angle
overflow_mul-angle c = omega (arith, product_small c)

pub near_even-requires : goal.near_even-requires
near_even-requires c = omega (arith, product_small c)

pub returns : goal.returns
returns c sign h e =
    let second = c in
    let first = second in
    direction_at_lem sign _ _ first.square_of-square.ensures.result_value _ _ second.factor_of-2.ensures.result_value first.factor_of.ensures.result_value (c.near_even.ensures sign h e)
