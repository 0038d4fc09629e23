-- `elements::series::aside` meets its contract: w is at most 50 to each mm, and keeps the angle's sign.
use mathlib.Core.Path.{◌∙◌, ap}
use Prim.Native.Nat.{◌*◌, ◌^◌, ◌≤◌}
use lib.IntN.{pos, ◌*ℤ◌}
use native.Mathlib.Omega.{arith}
use native.Mathlib.Nat.{mul-le-mul}
use Rattle.model.specs.Rounding.{ONE, near}
use Rattle.rounding.proofs.Quotients.{near_at_most}
use Rattle.elements.proofs.Steps.{near_times, near_times'}
use Rattle.elements.proofs.series.aside.Goals.{After-near_even-w, Start}
use Rattle.elements.proofs.series.aside.Goals as goal

product_small : (c : Start) → 100 * c.args.length * c.args.angle ≤ 50000000 * 2 ^ 29
product_small c = mul-le-mul {n₁ = 100 * c.args.length} {m₁ = c.args.angle} {n₂ = 50000000} {m₂ = 2 ^ 29} (omega arith) c.requires.curved.widest

w_small : (c : After-near_even-w) → c.near_even-w.result ≤ 25000000
w_small c = near_at_most _ _ _ 25000000 c.requires.curved.small (omega arith) c.near_even-w.ensures (product_small c.before)

second_small : (c : After-near_even-w) → c.near_even-w.result * c.args.f ≤ 25000000 * 2 ^ 30
second_small c = mul-le-mul (w_small c) c.requires.f_bound.0

pub overflow_mul-length-2 : goal.overflow_mul-length-2
overflow_mul-length-2 c = omega (arith, product_small c)

pub near_even-w-requires : goal.near_even-w-requires
near_even-w-requires c = omega (arith, product_small c)

pub overflow_mul-w : goal.overflow_mul-w
overflow_mul-w c = omega (arith, second_small c)

pub near_even-requires : goal.near_even-requires
near_even-requires c = omega (arith, second_small c)

pub returns : goal.returns
returns c sign h e =
    let s = c.args in
    near_times' _ _ _ _ _ (c.near_even.ensures sign h e) ∙ ap (λ z. near (z *ℤ pos s.f) (s.divisor * ONE)) (near_times _ _ _ _ _ (c.near_even-w.ensures sign h e))
