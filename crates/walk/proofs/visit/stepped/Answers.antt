-- `walk::visit::stepped` meets its contract: at a new best none is left out, and its root is not taken.
use mathlib.Core.Path.{◌≡◌, sym, ◌∙◌, ap}
use Prim.Native.Nat.{ℕ, ◌+◌, ◌-◌, ◌*◌, ◌/◌, ◌^◌, ◌≤◌, ◌<◌}
use native.Mathlib.Omega.{arith}
use native.Mathlib.Nat.{le_of_lt, min-eq_left, min-eq_right}
use Rattle.integers.specs.Root.{root}
use Rattle.model.specs.Walk.{skipped}
use Rattle.walk.specs.declared.visit.Stride.{Stride}
use Rattle.walk.specs.Search.{Known, Strided}
use Rattle.walk.proofs.visit.stepped.Goals as goal

new_best : {d b : ℕ} → d < b → Strided d b (record { root = 0; limit = 0; skip = 0 })
unfolding Known skipped
new_best h = record { skip = rw (min-eq_right (le_of_lt h)) (omega arith); known = λ k. absurd (omega arith); small = omega arith }

old_best : {d b : ℕ} (r : Stride) → b ≤ d → r.root ≡ root b → r.limit ≡ (root b + 31) * (root b + 31) → r.skip ≡ (root d - r.root - 31) / 150 → r.skip < 2 ^ 32 → Strided d b r
unfolding Known skipped
old_best {d} {b} r h e l k small = let m = min-eq_left h in record { skip = rw m (omega arith); known = λ z. rw m ((e, l)); small = small }

pub returns-then-d-best : goal.returns-then-d-best
returns-then-d-best c = new_best c.if-d-best.true

pub left_out-requires : goal.left_out-requires
left_out-requires c = let r = c.rooted-r.ensures in r.1 ∙ ap (λ (n : ℕ). (n + 31) * (n + 31)) (sym r.0)

pub returns : goal.returns
returns c = let r = c.rooted-r.ensures in old_best _ c.if-d-best.false r.0 r.1 c.left_out.ensures.value c.left_out.ensures.small
