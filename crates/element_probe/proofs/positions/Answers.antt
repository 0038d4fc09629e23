-- `element_probe::positions` meets its contract: what is added so far and what is left make the whole sum, and each position adds less than 2^30.
use mathlib.Core.Path.{◌∙◌, subst}
use Prim.Native.Nat.{ℕ}
use native.Mathlib.Omega.{arith}
use mir.Syntax.{w64}
use mir.Val.{to_z}
use mir.ValLaws.{to_z-of_z}
use Rattle.element_probe.proofs.Adding.{Added, none_yet, one_added, all_added}
use Rattle.element_probe.proofs.positions.Goals as goal

pub loop-left-init : goal.loop-left-init
loop-left-init c = none_yet c.args.p.element c.args.count

pub add_position-sum-requires : goal.add_position-sum-requires
add_position-sum-requires c =
    let a = c.loop-left.invariant in record { ready = c.requires; s_le_length = a.on; sum_bound = omega (arith, a.small, a.within, c.ranges.count) }

pub next_on-s-requires : goal.next_on-s-requires
next_on-s-requires c = tt

pub loop-left-preserved : goal.loop-left-preserved
loop-left-preserved c =
    let x = c in
    one_added x.requires.accepted x.loop-left.invariant (omega arith) (to_z-of_z w64 c.add_position-sum.result (record { sfits = c.add_position-sum.type_inv }) ∙ c.add_position-sum.ensures) c.next_on-s.ensures

pub returns : goal.returns
returns c = let a = c.loop-left.invariant in all_added (subst (λ (n : ℕ). Added c.args.p.element c.args.count (to_z w64 c.loop-left.sum-bits) c.loop-left.s n) (omega arith) a)
