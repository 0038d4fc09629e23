-- `walk::passes::multiples_on` meets its contract. The invariant: the multiples that are left, from what is seen, are all of them.
use mathlib.Core.Path.{◌≡◌}
use Prim.Native.Nat.{◌+◌, ◌-◌, ◌/◌, ◌%◌, ◌≤◌}
use Rattle.model.specs.Walk.{multiples_from}
use Rattle.walk.specs.Search.{above, seen_over, on_element, first_on}
use Rattle.walk.proofs.passes.multiples_on.Given as goal

abbrev pub invariant-loop-s : goal.invariant-loop-s
invariant-loop-s l = (seen_over (on_element l.p.element l.start l.q) (multiples_from (above l.end - l.s / 1000) l.s) l.v ≡ seen_over (on_element l.p.element l.start l.q) (first_on l.own l.start) l.initial.v)
    × (l.v.visits + l.start ≤ l.initial.v.visits + l.s) × (l.start ≤ l.s) × (l.s ≤ l.end + 1000) × (l.s % 1000 ≡ 0)

abbrev pub decreases-loop-s : goal.decreases-loop-s
decreases-loop-s l = l.end + 1000 - l.s
