-- What a move asks of its numbers.
use Rattle.std.specs.Prelude.{◌*◌, ◌≤◌, ℤ, nat_abs}
use Rattle.model.specs.declared.Point.{Point}
use Rattle.model.specs.Rounding.{ONE}
use Rattle.plane.specs.Frame.{InFrame}

-- two points of the frame, and a heading: a unit, or a sighting's turned direction, whose components can be larger than ONE
pub record Stakeable (own target : Point) (c s : ℤ) : Type 0 where
  pub from : InFrame own
  pub to : InFrame target
  pub first : nat_abs c ≤ 2 * ONE
  pub second : nat_abs s ≤ 2 * ONE
