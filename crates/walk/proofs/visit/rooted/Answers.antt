-- `walk::visit::rooted` meets its contract: the root of the best is below 2^32, so that the limit fits.
use mathlib.Core.Path.{◌≡◌, ap}
use Prim.Native.Nat.{ℕ, ◌+◌, ◌*◌, ◌^◌, ◌≤◌, ◌<◌}
use native.Mathlib.Omega.{arith}
use native.Mathlib.Nat.{mul-le-mul}
use Rattle.integers.specs.Root.{root}
use Rattle.integers.proofs.Root.{square→root-<}
use Rattle.elements.specs.Extent.{unreached}
use Rattle.walk.specs.Search.{Known}
use Rattle.walk.proofs.visit.rooted.Goals as goal

-- the root of a best
small : {b r : ℕ} → b ≤ unreached → r ≡ root b → r + 31 ≤ 2 ^ 31 + 31
small {b} h e = let k : root b < 2 ^ 31 + 1 = square→root-< (omega arith) in omega arith

pub returns-then-t-gt0 : goal.returns-then-t-gt0
unfolding Known
returns-then-t-gt0 c = c.requires.known c.if-t-gt0.true

pub overflow_mul-result : goal.overflow_mul-result
overflow_mul-result c =
    let s = small c.requires.best_le_unreached c.whole_root-b.ensures.value in
    omega (arith, mul-le-mul s s)

pub returns : goal.returns
returns c = let e = c.whole_root-b.ensures.value in (e, ap (λ (n : ℕ). (n + 31) * (n + 31)) e)
