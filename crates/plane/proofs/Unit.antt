-- A direction is a unit where the sum of its components' squares lies between two numbers, 2^60 less and more 2^31.
use Prim.Native.Nat.{ℕ, ◌+◌, ◌-◌, ◌≤◌, ◌<◌}
use mathlib.Core.Bool.{false, ◌&&◌}
use mathlib.Core.Path.{◌≡◌}
use native.Mathlib.Omega.{arith}
use borrow.Author.Tests.{le-leb, lt-leb}
use lib.Dec.{leb}
use lib.IntN.{ℤ, pos, nat_abs, ◌-ℤ◌}
use Rattle.integers.specs.Plane.{squared}
use Rattle.integers.proofs.Tests.{le_test, both_tests, same_test}
use Rattle.integers.proofs.Order.{difference, parts}
use Rattle.integers.proofs.Plane.{squared_is}
use Rattle.model.specs.Acceptance.{unit_square, unit_slack, is_unit}

distance : (n k : ℕ) → nat_abs (pos n -ℤ pos k) ≡ (n - k) + (k - n)
distance n k = omega (arith, difference (pos n) (pos k), parts (pos n -ℤ pos k))

distance_test : (n k h : ℕ) → h ≤ k → leb (nat_abs (pos n -ℤ pos k)) h ≡ (leb n (k + h) && leb (k - h) n)
distance_test n k h i =
    let d = distance n k in
    let two = both_tests (le_test n (k + h)) (le_test (k - h) n) in
    let one = le_test (nat_abs (pos n -ℤ pos k)) h in
    same_test _ _ (λ t. let l = one.0 t in two.1 (omega arith, omega arith), λ t. let l = two.0 t in one.1 (omega arith))

unit_squares : (c s : ℤ) → is_unit c s ≡ (leb (squared c s) (unit_square + unit_slack) && leb (unit_square - unit_slack) (squared c s))
unfolding is_unit
unit_squares c s = rw (← squared_is c s) (distance_test (squared c s) unit_square unit_slack (omega arith))

pub too_long : (c s : ℤ) → unit_square + unit_slack < squared c s → is_unit c s ≡ false
too_long c s h = rw (unit_squares c s, lt-leb (squared c s) (unit_square + unit_slack) h)

pub not_too_long : (c s : ℤ) → squared c s ≤ unit_square + unit_slack → is_unit c s ≡ leb (unit_square - unit_slack) (squared c s)
not_too_long c s h = rw (unit_squares c s, le-leb (squared c s) (unit_square + unit_slack) h)
