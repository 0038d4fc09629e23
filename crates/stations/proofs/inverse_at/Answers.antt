-- `stations::inverse_at` meets its contract: each coordinate fits, and is the definition's.
use mathlib.Core.List.{List}
use mathlib.Core.Path.{◌≡◌, ap, ap₂, ◌∙◌}
use native.Mathlib.Omega.{arith}
use Prim.Native.Nat.{◌+◌, ◌≤◌, ◌<◌, ◌^◌}
use lib.IntN.{ℤ, nat_abs, ◌+ℤ◌, ◌-ℤ◌, ◌*ℤ◌}
use Rattle.integers.proofs.Abs.{nat_abs-+, nat_abs--}
use Rattle.integers.proofs.Held.{held, held_small, held_as, nat_abs_held}
use Rattle.model.specs.declared.Element.{Element}
use Rattle.model.specs.declared.Point.{Point}
use Rattle.model.specs.Rounding.{ONE, near}
use Rattle.model.specs.Stations.{position_at, tangent_at}
use Rattle.model.specs.Answers.{widest_offset, inverse_at}
use Rattle.elements.specs.declared.Placement.{Placement}
use Rattle.elements.specs.Reached.{placement_of}
use Rattle.elements.specs.Extent.{widest_position, Placeable}
use Rattle.sources.specs.Sources.{elements_lent}
use Rattle.stations.proofs.StationExtent.{station_placeable, near_aside_within}
use Rattle.stations.proofs.StationHeld.{Computed, computed}
use Rattle.stations.proofs.inverse_at.Goals.{After-placed_at-p, Start}
use Rattle.stations.proofs.inverse_at.Goals as goal

-- the position and the direction at the station
module _ (c : Start) where
  abbrev es : List Element
  es = elements_lent c.args.form c.args.crest c.args.amendment

  abbrev p : Point
  p = position_at es c.args.s

  abbrev t : Point
  t = tangent_at es c.args.s

  bounds : Placeable (placement_of p t)
  bounds = station_placeable es c.args.s c.requires.source_accepted.alignment.each c.requires.s_bound

  -- an offset along a component: what is asked, and how large it is
  module _ {u v : ℤ} (e : u ≡ v) (h : nat_abs v < 2 ^ 31) where
    asked : (nat_abs (held c.args.w) ≤ widest_offset) × (nat_abs (held u) < 2 ^ 31)
    asked = (
      omega (arith, nat_abs_held c.args.w (omega (arith, c.requires.w_bound)), c.requires.w_bound),
      omega (arith, ap nat_abs (held_as e (omega arith)), h),
    )

    -- a coordinate with that offset
    beside : (f : ℤ → ℤ → ℤ) → ((a b : ℤ) → nat_abs (f a b) ≤ nat_abs a + nat_abs b) → {x y r : ℤ} → x ≡ y → nat_abs y ≤ widest_position → r ≡ near (held c.args.w *ℤ held u) ONE → Computed f y (near (c.args.w *ℤ v) ONE) x r
    beside f most {y = y} i b q =
        let k = near_aside_within c.args.w v c.requires.w_bound h in
        computed f i
        (q ∙ ap (λ (z : ℤ). near z ONE) (ap₂ ◌*ℤ◌ (held_small c.args.w (omega (arith, c.requires.w_bound))) (held_as e (omega (arith, h)))))
        (omega (arith, b))
        (omega (arith, k))
        (omega (arith, most y (near (c.args.w *ℤ v) ONE), b, k))

module _ (c : After-placed_at-p) where
  abbrev start : Start
  start = c.before.before.before.before

  abbrev is : (f : Placement → ℤ) → f c.placed_at-p.result ≡ f (placement_of (p start) (t start))
  is f = ap f c.placed_at-p.ensures

  is_tx : c.placed_at-p.result.tx ≡ (t start).x
  is_tx = is (λ (q : Placement). q.tx)

  is_ty : c.placed_at-p.result.ty ≡ (t start).y
  is_ty = is (λ (q : Placement). q.ty)

  -- X less the offset along Ty
  less : {r : ℤ} → r ≡ near (held start.args.w *ℤ held c.placed_at-p.result.ty) ONE →
      Computed ◌-ℤ◌ (p start).x (near (start.args.w *ℤ (t start).y) ONE) c.placed_at-p.result.x r
  less q = beside start is_ty (bounds start).ty ◌-ℤ◌ nat_abs-- (is (λ (q : Placement). q.x)) (bounds start).x q

  -- Y with the offset along Tx
  more : {r : ℤ} → r ≡ near (held start.args.w *ℤ held c.placed_at-p.result.tx) ONE →
      Computed ◌+ℤ◌ (p start).y (near (start.args.w *ℤ (t start).x) ONE) c.placed_at-p.result.y r
  more q = beside start is_tx (bounds start).tx ◌+ℤ◌ nat_abs-+ (is (λ (q : Placement). q.y)) (bounds start).y q

pub offset_along-back-requires : goal.offset_along-back-requires
offset_along-back-requires c =
    let x = (goal.at.offset_along-back-requires c).After-placed_at-p in
    asked (start x) (is_ty x) (bounds (start x)).ty

pub offset_along-on-requires : goal.offset_along-on-requires
offset_along-on-requires c =
    let x = (goal.at.offset_along-on-requires c).After-placed_at-p in
    asked (start x) (is_tx x) (bounds (start x)).tx

pub overflow_sub-result : goal.overflow_sub-result
overflow_sub-result c = (less (goal.at.overflow_sub-result c).After-placed_at-p c.offset_along-back.ensures).fits

pub overflow_add-result : goal.overflow_add-result
overflow_add-result c = (more (goal.at.overflow_add-result c).After-placed_at-p c.offset_along-on.ensures).fits

pub returns : goal.returns
unfolding inverse_at
returns c =
    let y = (more (goal.at.returns c).After-placed_at-p c.offset_along-on.ensures).is in
    let x = (less (goal.at.returns c).After-placed_at-p c.offset_along-back.ensures).is in
    rw (x, y)
