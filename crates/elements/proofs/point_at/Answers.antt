-- `elements::point_at` meets its contract: the axes carry the signs of u and v.
use mathlib.Core.Path.{refl, ◌∙◌, ap₂}
use lib.IntN.{ℤ}
use Rattle.elements.proofs.Axes.{turnable_held, coordinate_held, point_x, point_y, point_turnable_x, point_turnable_y}
use Rattle.elements.proofs.point_at.Goals as goal

pub returns : goal.returns
returns c =
    let first = c in
    let x = first.requires in
    ap₂ (λ (a b : ℤ). record { x = a; y = b })
    (coordinate_held (point_turnable_x x.ready x.near) refl (record { sfits = first.coordinate.type_inv }) first.coordinate.ensures ∙ point_x x.ready _)
    (coordinate_held (point_turnable_y x.ready x.near) refl (record { sfits = c.coordinate-2.type_inv }) c.coordinate-2.ensures ∙ point_y x.ready _)

pub coordinate-requires : goal.coordinate-requires
coordinate-requires c = let x = c.requires in turnable_held (point_turnable_x x.ready x.near) refl

pub coordinate-requires-2 : goal.coordinate-requires-2
coordinate-requires-2 c = let x = c.requires in turnable_held (point_turnable_y x.ready x.near) refl
