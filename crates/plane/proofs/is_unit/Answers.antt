-- `plane::is_unit` meets its contract: a component above 2^31 is too long for a unit, and else the sum of the squares fits and is compared.
use mathlib.Core.Path.{◌≡◌, sym, ap, ◌∙◌}
use native.Mathlib.Omega.{arith}
use lib.IntN.{nat_abs}
use mir.Facts.{to_z-of_z}
use Rattle.integers.specs.Plane.{squared}
use Rattle.integers.proofs.Abs.{square-≤, square-<}
use Rattle.plane.proofs.Unit.{too_long, not_too_long}
use Rattle.plane.proofs.is_unit.Goals.{After-magnitude-n}
use Rattle.plane.proofs.is_unit.Goals as goal

sizes : (c : After-magnitude-n) → let a = c.args in (c.magnitude-m.result ≡ nat_abs a.c) × (c.magnitude-n.result ≡ nat_abs a.s)
sizes c =
    let f = c.ranges in
    (c.magnitude-m.ensures ∙ ap nat_abs (to_z-of_z f.c), c.magnitude-n.ensures ∙ ap nat_abs (to_z-of_z f.s))

pub returns-then-m-gt-COMPONENT : goal.returns-then-m-gt-COMPONENT
unfolding squared
returns-then-m-gt-COMPONENT c =
    let z = sizes c.before in
    sym (too_long _ _ (rw (← z.0, ← z.1) (omega (arith, square-< c.if-m-gt-COMPONENT.true))))

pub returns-then-n-gt-COMPONENT : goal.returns-then-n-gt-COMPONENT
unfolding squared
returns-then-n-gt-COMPONENT c =
    let z = sizes c.before.before in
    sym (too_long _ _ (rw (← z.0, ← z.1) (omega (arith, square-< c.if-n-gt-COMPONENT.true))))

pub overflow_mul-sum : goal.overflow_mul-sum
overflow_mul-sum c = omega (arith, square-≤ c.if-m-gt-COMPONENT.false)

pub overflow_mul-sum-2 : goal.overflow_mul-sum-2
overflow_mul-sum-2 c = omega (arith, square-≤ c.if-n-gt-COMPONENT.false)

pub overflow_add-sum : goal.overflow_add-sum
overflow_add-sum c = omega (arith, square-≤ c.if-m-gt-COMPONENT.false, square-≤ c.if-n-gt-COMPONENT.false)

pub returns-then-sum-gt-MOST_UNIT : goal.returns-then-sum-gt-MOST_UNIT
unfolding squared
returns-then-sum-gt-MOST_UNIT c =
    let z = sizes c.before.before.before in
    sym (too_long _ _ (rw (← z.0, ← z.1) c.if-sum-gt-MOST_UNIT.true))

pub returns : goal.returns
unfolding squared
returns c =
    let z = sizes c.before.before.before in
    let a = c.args in
    rw (not_too_long a.c a.s (rw (← z.0, ← z.1) c.if-sum-gt-MOST_UNIT.false), ← z.0, ← z.1)
