-- `elements::heading_at` meets its contract: the direction at the anchor turns by the cosine and the sine of the angle.
use mathlib.Core.Path.{◌≡◌, ◌∙◌, ap₂}
use native.Mathlib.Omega.{arith}
use lib.IntN.{ℤ}
use Rattle.integers.proofs.Held.{held_within, held_small}
use Rattle.model.specs.Kinds.{anchored_far}
use Rattle.model.specs.Series.{facing}
use Rattle.elements.proofs.Preparing.{off_small}
use Rattle.elements.proofs.Axes.{turnable_held, coordinate_held, vx_within, vy_within, heading_x, heading_y, heading_turnable_x, heading_turnable_y}
use Rattle.elements.proofs.heading_at.Goals.{After-faced, After-faced-2}
use Rattle.elements.proofs.heading_at.Goals as goal

pub direction-d-requires : goal.direction-d-requires
direction-d-requires c = let x = c in record { longest = omega arith; widest = x.requires.angle_le_widest_angle; small = off_small x.requires.ready }

pub faced-requires : goal.faced-requires
faced-requires c = let x = c in held_within x.args.p.vx (omega (arith, vx_within x.requires.ready))

pub faced-requires-2 : goal.faced-requires-2
faced-requires-2 c = let x = c in held_within x.args.p.vy (omega (arith, vy_within x.requires.ready))

-- the components of the second axis, as they are computed
faced_x : (c : After-faced) → c.faced.result ≡ facing (anchored_far c.args.p.element.kind) c.args.p.vx
faced_x c = c.faced.ensures ∙ ap₂ facing c.anchored_far-far.ensures (held_small c.args.p.vx (omega (arith, vx_within c.requires.ready)))

faced_y : (c : After-faced-2) → c.faced-2.result ≡ facing (anchored_far c.args.p.element.kind) c.args.p.vy
faced_y c = c.faced-2.ensures ∙ ap₂ facing c.anchored_far-far.ensures (held_small c.args.p.vy (omega (arith, vy_within c.requires.ready)))

pub coordinate-requires : goal.coordinate-requires
coordinate-requires c =
    turnable_held (heading_turnable_x c.requires.ready _ _ c.requires.angle_le_widest_angle c.direction-d.ensures) (faced_x (goal.at.coordinate-requires c).After-faced)

pub coordinate-requires-2 : goal.coordinate-requires-2
coordinate-requires-2 c =
    turnable_held (heading_turnable_y c.requires.ready _ _ c.requires.angle_le_widest_angle c.direction-d.ensures) (faced_y (goal.at.coordinate-requires-2 c).After-faced-2)

pub returns : goal.returns
returns c =
    let x = c.requires in
    let t = c.direction-d.ensures in
    let at = goal.at.returns c in
    ap₂ (λ (a b : ℤ). record { x = a; y = b })
    (coordinate_held (heading_turnable_x x.ready _ _ x.angle_le_widest_angle t) (faced_x at.After-faced) (record { sfits = c.coordinate.type_inv }) c.coordinate.ensures ∙ heading_x x.ready _ _ x.angle_le_widest_angle t)
    (coordinate_held (heading_turnable_y x.ready _ _ x.angle_le_widest_angle t) (faced_y at.After-faced-2) (record { sfits = c.coordinate-2.type_inv }) c.coordinate-2.ensures ∙ heading_y x.ready _ _ x.angle_le_widest_angle t)
