-- What the parts of a sighting ask of its numbers.
use Rattle.std.specs.Prelude.{◌*◌, ◌≤◌, ℤ, nat_abs, neg_ℤ}
use Rattle.model.specs.declared.Point.{Point}
use Rattle.model.specs.declared.Outcome.{Outcome}
use Rattle.model.specs.declared.Outcome.TheVariants.{Done, Refused}
use Rattle.model.specs.declared.Move.{Move}
use Rattle.model.specs.declared.Move.TheVariants.{By, Refused as MoveRefused}
use Rattle.model.specs.declared.Placed.{Placed}
use Rattle.model.specs.declared.Placed.TheVariants.{At}
use Rattle.model.specs.declared.Sighting.{Sighting}
use Rattle.model.specs.Rounding.{ONE}
use Rattle.model.specs.Refusals.{verdict}
use Rattle.model.specs.Acceptance.{frame}
use Rattle.model.specs.Answers.{end_rules, forward_of, left_of}
use Rattle.model.specs.Sightings.{backsight_of, angle_of, turned_of, sighted_of, longest_sight}

-- components of a unit
pub record Pair (d : Point) : Type 0 where
  pub first : nat_abs d.x ≤ ONE
  pub second : nat_abs d.y ≤ ONE

-- a coordinate in the frame, a distance, and a component of the turned direction, which can be larger than ONE
pub record Along (from distance along : ℤ) : Type 0 where
  pub start : nat_abs from ≤ frame
  pub length : nat_abs distance ≤ longest_sight
  pub component : nat_abs along ≤ 2 * ONE

-- a sighting that nothing refuses
pub record Sightable (k : Sighting) : Type 0 where
  pub backsight : Pair (backsight_of k)
  pub angle : Pair (angle_of k)
  pub x : nat_abs k.x ≤ frame
  pub y : nat_abs k.y ≤ frame
  pub length : nat_abs k.distance ≤ longest_sight

-- its point and its direction
unfoldable pub placed_by : Sighting → Placed
unfolding sighted_of turned_of
placed_by k = At (sighted_of k).x (sighted_of k).y (turned_of k).x (turned_of k).y

-- ---- the move

-- components of a turned direction
pub record Facing (tx ty : ℤ) : Type 0 where
  pub first : nat_abs tx ≤ 2 * ONE
  pub second : nat_abs ty ≤ 2 * ONE

-- the move that faces back to the instrument, after the rules of its two ends
unfoldable pub back_if : Outcome → Point → Point → ℤ → ℤ → Move
unfolding forward_of left_of
back_if Done own target tx ty = By (forward_of own target (neg_ℤ tx) (neg_ℤ ty)) (left_of own target (neg_ℤ tx) (neg_ℤ ty))
back_if (Refused why) own target tx ty = MoveRefused why

abbrev pub moved_back : Point → Point → ℤ → ℤ → Move
moved_back own target tx ty = back_if (verdict (end_rules own target)) own target tx ty
