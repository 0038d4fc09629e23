-- `sightings::placed` meets its contract: the distance along each component of the turned direction.
use Prim.Native.Nat.{◌*◌, ◌≤◌, ◌^◌}
use mathlib.Core.Path.{◌≡◌, sym, ap, ap₂, ◌∙◌, subst}
use native.Mathlib.Omega.{arith}
use lib.IntN.{ℤ, nat_abs}
use mir.Facts.{to_z-of_z}
use mir.Syntax.{w32, w64}
use mir.Val.{to_z, of_z}
use Rattle.integers.proofs.Held.{held, held_small, held_as}
use Rattle.integers.proofs.Ranges.{fits_below}
use Rattle.model.specs.declared.Point.{Point}
use Rattle.model.specs.declared.Placed.TheVariants.{At}
use Rattle.model.specs.declared.Sighting.{Sighting}
use Rattle.model.specs.Rounding.{ONE}
use Rattle.model.specs.Sightings.{backsight_of, angle_of, turned, turned_of, sighted_of}
use Rattle.sightings.specs.SightRanges.{Pair, Facing, Sightable, placed_by}
use Rattle.sightings.proofs.SightAnswers.{turned_small}
use Rattle.sightings.proofs.placed.Goals.{After-point-angle, After-point-backsight}
use Rattle.sightings.proofs.placed.Goals as goal

-- an i32 that is read back
narrow : (z : ℤ) → nat_abs z ≤ 2 ^ 30 → to_z w32 (of_z w32 z) ≡ z
narrow z h = to_z-of_z {w = w32} (fits_below (omega (arith, h)))

-- ---- both pairs, as they came

pair_came : (x y : ℤ) {d : Point} → Pair (record { x = x; y = y }) → d ≡ record { x = to_z w32 (of_z w32 x); y = to_z w32 (of_z w32 y) } → d ≡ record { x = x; y = y }
pair_came x y p e = e ∙ ap₂ (λ (x y : ℤ). record { x = x; y = y }) (narrow x (omega (arith, p.first))) (narrow y (omega (arith, p.second)))

backsight_came : (c : After-point-backsight) → c.point-backsight.result ≡ backsight_of c.args.sighting
backsight_came c = pair_came c.args.sighting.backsight_c c.args.sighting.backsight_s c.requires.backsight c.point-backsight.ensures

angle_came : (c : After-point-angle) → c.point-angle.result ≡ angle_of c.args.sighting
angle_came c = pair_came c.args.sighting.angle_c c.args.sighting.angle_s c.requires.angle c.point-angle.ensures

pub turned-t-requires : goal.turned-t-requires
turned-t-requires c =
    let at = goal.at.turned-t-requires c in
    record { pair = subst Pair (sym (backsight_came at.After-point-backsight)) c.requires.backsight; pair_2 = subst Pair (sym (angle_came at.After-point-angle)) c.requires.angle }

-- ---- the turned direction, and the other numbers

module _ (k : Sighting) (can : Sightable k) where
  small : (nat_abs (turned_of k).x ≤ 2 * ONE) × (nat_abs (turned_of k).y ≤ 2 * ONE)
  unfolding turned_of
  small = turned_small (backsight_of k) (angle_of k) can.backsight can.angle

  x_came : to_z w32 (of_z w32 k.x) ≡ k.x
  x_came = narrow k.x (omega (arith, can.x))

  y_came : to_z w32 (of_z w32 k.y) ≡ k.y
  y_came = narrow k.y (omega (arith, can.y))

  distance_came : to_z w32 (of_z w32 k.distance) ≡ k.distance
  distance_came = narrow k.distance (omega (arith, can.length))

  -- the direction that a call returned, where it got the pairs as they came
  module _ {b a t : Point} (turned_by : t ≡ turned b a) (b_came : b ≡ backsight_of k) (a_came : a ≡ angle_of k) where
    is_turned : t ≡ turned_of k
    unfolding turned_of
    is_turned = turned_by ∙ ap₂ turned b_came a_came

    turned_x : held t.x ≡ (turned_of k).x
    turned_x = held_as (ap (λ (p : Point). p.x) is_turned) (omega (arith, small.0))

    turned_y : held t.y ≡ (turned_of k).y
    turned_y = held_as (ap (λ (p : Point). p.y) is_turned) (omega (arith, small.1))

    -- either direction could be gone along
    faces_prism : Facing t.x t.y
    faces_prism = rw is_turned (record { first = small.0; second = small.1 })

    faces_backsight : Facing b.x b.y
    faces_backsight = let s = can.backsight in rw b_came (record { first = omega (arith, s.first); second = omega (arith, s.second) })

component_x : {x y : ℤ} → Facing x y → nat_abs (held x) ≤ 2 * ONE
component_x {x} f = rw (held_small x (omega (arith, f.first))) f.first

component_y : {x y : ℤ} → Facing x y → nat_abs (held y) ≤ 2 * ONE
component_y {y = y} f = rw (held_small y (omega (arith, f.second))) f.second

pub gone-requires : goal.gone-requires
gone-requires c =
    let at = goal.at.gone-requires c in
    let k = c.args.sighting in
    let s = c.requires in
    let b = backsight_came at.After-point-backsight in
    let a = angle_came at.After-point-angle in
    let prism = faces_prism k s c.turned-t.ensures b a in
    let backsight = faces_backsight k s c.turned-t.ensures b a in
    rw (x_came k s, distance_came k s) (record { start = s.x; length = s.length; component = search (component_x, prism, backsight) })

pub gone-requires-2 : goal.gone-requires-2
gone-requires-2 c =
    let at = goal.at.gone-requires-2 c in
    let k = c.args.sighting in
    let s = c.requires in
    let b = backsight_came at.After-point-backsight in
    let a = angle_came at.After-point-angle in
    let prism = faces_prism k s c.turned-t.ensures b a in
    let backsight = faces_backsight k s c.turned-t.ensures b a in
    rw (y_came k s, distance_came k s) (record { start = s.y; length = s.length; component = search (component_y, prism, backsight) })

same : {x x' y y' u u' v v' : ℤ} → x ≡ x' → y ≡ y' → u ≡ u' → v ≡ v' → At x y u v ≡ At x' y' u' v'
same a b c d = cc

pub returns : goal.returns
unfolding placed_by sighted_of
returns c =
    let at = goal.at.returns c in
    let k = c.args.sighting in
    let s = c.requires in
    let b = backsight_came at.After-point-backsight in
    let a = angle_came at.After-point-angle in
    let tx = turned_x k s c.turned-t.ensures b a in
    let ty = turned_y k s c.turned-t.ensures b a in
    let x = to_z-of_z {w = w64} (record { sfits = c.gone.type_inv }) ∙ rw (x_came k s, distance_came k s, tx) at c.gone.ensures in
    let y = to_z-of_z {w = w64} (record { sfits = c.gone-2.type_inv }) ∙ rw (y_came k s, distance_came k s, ty) at c.gone-2.ensures in
    same x y tx ty
