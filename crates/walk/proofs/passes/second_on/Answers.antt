-- `walk::passes::second_on` meets its contract. The invariant: the pass over what is left, from what is seen, is the whole pass.
use mathlib.Core.Path.{◌≡◌, sym, ◌∙◌, ap}
use Prim.Native.Nat.{◌+◌, ◌-◌, min}
use native.Mathlib.Omega.{arith}
use Rattle.walk.specs.declared.Seen.{Seen}
use Rattle.walk.specs.Search.{Known, on_element}
use Rattle.walk.proofs.Seeing.{second_on, second_step, second_none, seen_at_visits, seen_at_best}
use Rattle.walk.proofs.passes.second_on.Goals as goal

pub loop-s-init : goal.loop-s-init
unfolding Known
loop-s-init c =
    let a = c.args in
    let k : a.start + a.own - a.start ≡ a.own = omega arith in
    (rw k, omega arith, omega arith, omega arith, (λ z. absurd (omega arith)))

pub distance-d-requires : goal.distance-d-requires
distance-d-requires c = let a = c.requires in record { ready = a.ready; s_le_length = omega arith; in_frame = a.frame }

pub stepped-t-requires : goal.stepped-t-requires
stepped-t-requires c = record { best_le_unreached = omega arith; known = c.loop-s.invariant.4 }

pub overflow_add-s-in-loop-s : goal.overflow_add-s-in-loop-s
overflow_add-s-in-loop-s c = omega (arith, c.stepped-t.ensures.small)

pub loop-s-preserved : goal.loop-s-preserved
unfolding on_element
loop-s-preserved c =
    let v = c.seen-v in
    let t = c.stepped-t in
    let near = c in
    let d = near.distance-d in
    let l = near.loop-s in
    let best : v.result.best ≡ min l.v.best d.result = ap (λ (x : Seen). x.best) v.ensures ∙ seen_at_best d.result l.s l.v in (
      sym (second_step _ _ l.s _ _ l.v _ near.loop-s-test.true d.ensures v.ensures t.ensures.skip) ∙ l.invariant.0,
      omega (arith, ap (λ (x : Seen). x.visits) v.ensures, seen_at_visits d.result l.s l.v),
      omega arith,
      omega (arith, best),
      rw best t.ensures.known,
    )

pub returns : goal.returns
unfolding second_on
returns c =
    let l = c.loop-s in
    sym (second_none _ _ l.s l.v (omega arith)) ∙ l.invariant.0
