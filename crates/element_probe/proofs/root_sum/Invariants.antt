-- `element_probe::root_sum` meets its contract: what is added so far and what is left make the whole sum, and each root adds less than 2^32.
use Prim.Native.Nat.{◌-◌}
use Rattle.element_probe.proofs.Roots.{RootsAdded}
use Rattle.element_probe.proofs.root_sum.Given as goal

abbrev pub invariant-loop-i : goal.invariant-loop-i
invariant-loop-i l = RootsAdded l.first l.n l.sum l.i

abbrev pub decreases-loop-i : goal.decreases-loop-i
decreases-loop-i l = l.n - l.i
