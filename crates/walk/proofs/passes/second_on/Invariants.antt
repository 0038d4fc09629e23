-- `walk::passes::second_on` meets its contract. The invariant: the pass over what is left, from what is seen, is the whole pass.
use mathlib.Core.Path.{◌≡◌}
use Prim.Native.Nat.{◌+◌, ◌-◌, ◌≤◌}
use Rattle.walk.specs.Search.{Known, on_element}
use Rattle.walk.proofs.Seeing.{second_on}
use Rattle.walk.proofs.passes.second_on.Given as goal

abbrev pub invariant-loop-s : goal.invariant-loop-s
invariant-loop-s l = (second_on (on_element l.p.element l.start l.q) (l.end - l.s) l.s l.v ≡ second_on (on_element l.p.element l.start l.q) l.own l.start l.initial.v)
    × (l.v.visits + l.start ≤ l.initial.v.visits + l.s) × (l.start ≤ l.s) × (l.v.best ≤ l.initial.v.best) × Known l.v.best l.t

abbrev pub decreases-loop-s : goal.decreases-loop-s
decreases-loop-s l = l.end - l.s
