-- `walk::passes::multiples_on` meets its contract. The invariant: the multiples that are left, from what is seen, are all of them.
use mathlib.Core.Path.{◌≡◌, sym, ◌∙◌, ap}
use Prim.Native.Nat.{◌*◌, ◌/◌}
use native.Mathlib.Omega.{arith}
use Rattle.walk.specs.declared.Seen.{Seen}
use Rattle.walk.specs.Search.{above, on_element, first_on}
use Rattle.walk.proofs.Seeing.{multiples_step, multiples_none, seen_at_visits}
use Rattle.walk.proofs.passes.multiples_on.Goals as goal

pub loop-s-init : goal.loop-s-init
unfolding first_on
loop-s-init c =
    let a = c.args in
    let k : above a.start * 1000 / 1000 ≡ above a.start = omega arith in
    (rw k, omega arith, omega arith, omega arith, omega arith)

pub distance-requires : goal.distance-requires
distance-requires c = let a = c.requires in record { ready = a.ready; s_le_length = omega arith; in_frame = a.frame }

pub loop-s-preserved : goal.loop-s-preserved
unfolding on_element
loop-s-preserved c =
    let d = c.distance in
    let l = c.loop-s in (
      sym (multiples_step _ _ _ l.s _ l.v _ (omega arith) d.ensures c.seen-v.ensures) ∙ l.invariant.0,
      omega (arith, ap (λ (x : Seen). x.visits) c.seen-v.ensures, seen_at_visits d.result l.s l.v),
      omega arith,
      omega arith,
      omega arith,
    )

pub returns : goal.returns
returns c =
    let l = c.loop-s in
    sym (multiples_none _ _ l.s l.v (omega arith)) ∙ l.invariant.0
