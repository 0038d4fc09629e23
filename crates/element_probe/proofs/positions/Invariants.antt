-- `element_probe::positions` meets its contract: what is added so far and what is left make the whole sum, and each position adds less than 2^30.
use Rattle.element_probe.proofs.Adding.{Added}
use Rattle.element_probe.proofs.positions.Given as goal

abbrev pub invariant-loop-left : goal.invariant-loop-left
invariant-loop-left l = Added l.p.element l.count l.sum l.s l.left

abbrev pub decreases-loop-left : goal.decreases-loop-left
decreases-loop-left l = l.left
