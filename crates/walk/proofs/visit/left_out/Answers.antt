-- `walk::visit::left_out` meets its contract: below the limit the subtraction stops at 0, and from it on the root is b + 31 at least.
use mathlib.Core.Path.{◌≡◌, subst}
use Prim.Native.Nat.{ℕ, ◌+◌, ◌*◌, ◌≤◌, ◌<◌}
use native.Mathlib.Omega.{arith}
use Rattle.integers.specs.Root.{root}
use Rattle.integers.proofs.Root.{square→root-<, square→≤-root}
use Rattle.walk.proofs.visit.left_out.Goals as goal

below : {d : ℕ} (b : ℕ) {limit : ℕ} → limit ≡ (b + 31) * (b + 31) → d < limit → root d < b + 31
below {d} b e h = square→root-< (subst (λ (n : ℕ). d < n) e h)

from : {d : ℕ} (b : ℕ) {limit : ℕ} → limit ≡ (b + 31) * (b + 31) → limit ≤ d → b + 31 ≤ root d
from {d} b e h = square→≤-root (subst (λ (n : ℕ). n ≤ d) e h)

pub returns-then-d-limit : goal.returns-then-d-limit
returns-then-d-limit c = record { value = omega (arith, below c.args.b c.requires c.if-d-limit.true); small = omega arith }

pub overflow_sub-result : goal.overflow_sub-result
overflow_sub-result c = omega (arith, from c.args.b c.requires c.if-d-limit.false)

pub overflow_sub-result-2 : goal.overflow_sub-result-2
overflow_sub-result-2 c = omega (arith, from c.args.b c.requires c.if-d-limit.false)

pub returns : goal.returns
returns c = record { value = omega arith; small = omega arith }
