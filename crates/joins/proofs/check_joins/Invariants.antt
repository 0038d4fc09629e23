-- `joins::check_joins` meets its contract. The loop's invariant: the joins before `r` refuse nothing, and `last` is where the element of record `r` ends.
use Prim.Native.Nat.{◌-◌}
use Rattle.joins.proofs.JoinElements.{Joined}
use Rattle.joins.proofs.check_joins.Given as goal

abbrev pub invariant-loop-r : goal.invariant-loop-r
invariant-loop-r l = Joined l.form l.crest l.amendment l.count l.last l.r

abbrev pub decreases-loop-r : goal.decreases-loop-r
decreases-loop-r l = l.count - l.r
