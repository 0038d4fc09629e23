-- `elements::divisor_of` meets its contract, shape by shape.
use mathlib.Core.Path.{◌≡◌, sym, ap}
use Prim.Native.Nat.{◌*◌, ◌≤◌}
use native.Mathlib.Omega.{arith}
use native.Mathlib.Nat.{mul-le-mul}
use Rattle.model.specs.declared.Shape.{Shape}
use Rattle.model.specs.Acceptance.{longest_element, widest}
use Rattle.elements.specs.Prepared.{divisor_of}
use Rattle.elements.proofs.divisor_of.Goals.{Start}
use Rattle.elements.proofs.divisor_of.Goals as goal

product_small : (c : Start) → 2 * c.args.radius * c.args.whole ≤ 2 * widest * longest_element
product_small c = mul-le-mul {n₁ = 2 * c.args.radius} {m₁ = c.args.whole} {n₂ = 2 * widest} {m₂ = longest_element} (omega arith) c.requires.1

of_shape : (c : Start) {k : Shape} → c.args.shape ≡ k → divisor_of k c.args.radius c.args.whole ≡ divisor_of c.args.shape c.args.radius c.args.whole
of_shape c e = sym (ap (λ k. divisor_of k c.args.radius c.args.whole) e)

pub overflow_mul-result-in-Clothoid-2 : goal.overflow_mul-result-in-Clothoid-2
overflow_mul-result-in-Clothoid-2 c = omega (arith, product_small (goal.at.overflow_mul-result-in-Clothoid-2 c).Start)

pub returns-in-Straight : goal.returns-in-Straight
unfolding divisor_of
returns-in-Straight c = of_shape (goal.at.returns-in-Straight c).Start c.in-Straight.is

pub returns-in-Circular : goal.returns-in-Circular
unfolding divisor_of
returns-in-Circular c = of_shape (goal.at.returns-in-Circular c).Start c.in-Circular.is

pub returns-in-Clothoid : goal.returns-in-Clothoid
unfolding divisor_of
returns-in-Clothoid c = of_shape (goal.at.returns-in-Clothoid c).Start c.in-Clothoid.is
