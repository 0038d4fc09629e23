-- `elements::placed` meets its contract: position and direction come from one reach.
use mathlib.Core.Path.{◌∙◌, ap}
use native.Mathlib.Omega.{arith}
use Rattle.integers.proofs.Held.{held_as}
use Rattle.model.specs.declared.Point.{Point}
use Rattle.elements.specs.Reached.{of}
use Rattle.elements.proofs.Extent.{extent}
use Rattle.elements.proofs.Axes.{point_asks, heading_asks, point_is, heading_is}
use Rattle.elements.proofs.placed.Goals as goal

pub reach-r-requires : goal.reach-r-requires
reach-r-requires c = of _ _ c.requires.ready c.requires.s_le_length

pub point_at-at-requires : goal.point_at-at-requires
point_at-at-requires c = let told = point_asks _ (c.requires.ready, c.requires.s_le_length) c.reach-r.ensures in record { ready = told.0; near = told.1 }

pub heading_at-heading-requires : goal.heading_at-heading-requires
heading_at-heading-requires c = let told = heading_asks _ (c.requires.ready, c.requires.s_le_length) c.reach-r.ensures in record { ready = told.0; angle_le_widest_angle = told.1 }

pub returns : goal.returns
returns c =
    let x = c.requires in
    let r = c.reach-r.ensures in
    let b = extent x.ready.accepted x.s_le_length in
    let p = c.point_at-at.ensures ∙ point_is _ (x.ready, x.s_le_length) r in
    let t = c.heading_at-heading.ensures ∙ heading_is _ (x.ready, x.s_le_length) r in
    rw (
      held_as (ap (λ (q : Point). q.x) p) (omega (arith, b.x)),
      held_as (ap (λ (q : Point). q.y) p) (omega (arith, b.y)),
      held_as (ap (λ (q : Point). q.x) t) (omega (arith, b.tx)),
      held_as (ap (λ (q : Point). q.y) t) (omega (arith, b.ty)),
    )
