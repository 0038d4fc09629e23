-- `elements::series::factor_of` meets its contract: neither quotient exceeds ONE, so neither difference is negative.
use Prim.Native.Nat.{◌-◌, ◌*◌, ◌≤◌}
use native.Mathlib.Omega.{arith}
use native.Mathlib.Nat.{mul-le-mul}
use Rattle.integers.specs.Signs.{with_sign}
use Rattle.model.specs.Rounding.{ONE}
use Rattle.elements.specs.Reached.{factor_of}
use Rattle.rounding.proofs.Quotients.{lowered_0, near_at_most}
use Rattle.elements.proofs.Steps.{factor_step}
use Rattle.elements.proofs.series.factor_of.Goals.{After-near_even, After-near_even-inner, Start}
use Rattle.elements.proofs.series.factor_of.Goals as goal

inner_product : (c : Start) → c.args.f.b * c.args.square ≤ c.args.f.d * ONE
inner_product c = mul-le-mul c.requires.ratio c.requires.small

module _ (c : After-near_even-inner) where
  quotient_small : c.near_even-inner.result ≤ ONE
  quotient_small = near_at_most _ _ _ ONE (omega arith) (omega arith) c.near_even-inner.ensures (inner_product c.before.before)

  outer_product : c.args.square * (ONE - c.near_even-inner.result) ≤ ONE * ONE
  outer_product = mul-le-mul {n₁ = c.args.square} {m₁ = ONE - c.near_even-inner.result} {n₂ = ONE} {m₂ = ONE} c.requires.small (omega arith)

outer_small : (c : After-near_even) → c.near_even.result ≤ ONE
outer_small c = near_at_most _ _ _ ONE (omega arith) (omega arith) c.near_even.ensures (omega (arith, outer_product c.before.before))

pub overflow_mul-f : goal.overflow_mul-f
overflow_mul-f c = omega (arith, inner_product c.before)

pub near_even-inner-requires : goal.near_even-inner-requires
near_even-inner-requires c = omega (arith, inner_product c.before)

pub overflow_sub-inner : goal.overflow_sub-inner
overflow_sub-inner c = quotient_small c

pub overflow_mul-square : goal.overflow_mul-square
overflow_mul-square c = omega (arith, outer_product c)

pub near_even-requires : goal.near_even-requires
near_even-requires c = omega (arith, outer_product c.before)

pub overflow_sub-result : goal.overflow_sub-result
overflow_sub-result c = outer_small c

pub returns : goal.returns
unfolding with_sign
returns c = record { result_value = factor_step (factor_of c.args.f) _ _ _ (quotient_small c.before.before) (outer_small c) (c.near_even-inner.ensures 0 (omega arith) lowered_0) (c.near_even.ensures 0 (omega arith) lowered_0); small = omega arith }
