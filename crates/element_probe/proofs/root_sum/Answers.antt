-- `element_probe::root_sum` meets its contract: what is added so far and what is left make the whole sum, and each root adds less than 2^32.
use native.Mathlib.Omega.{arith}
use Rattle.element_probe.proofs.Roots.{no_roots_yet, one_root_more, all_roots_added}
use Rattle.element_probe.proofs.root_sum.Goals as goal

pub loop-i-init : goal.loop-i-init
loop-i-init c = no_roots_yet _ _

pub whole_root-sum-requires : goal.whole_root-sum-requires
whole_root-sum-requires c = tt

pub overflow_add-sum : goal.overflow_add-sum
overflow_add-sum c =
    let a = c.loop-i.invariant in
    record { fits = omega (arith, a.small, a.within, c.whole_root-sum.ensures.small, c.ranges.count) }

pub loop-i-preserved : goal.loop-i-preserved
loop-i-preserved c =
    let a = c.loop-i.invariant in
    let r = c.whole_root-sum.ensures in
    rw r.value (one_root_more a (omega arith) (rw (← r.value) r.small))

pub returns : goal.returns
returns c = all_roots_added c.loop-i.invariant (omega arith)
