-- What a function asks of a point.
use Rattle.std.specs.Prelude.{◌≤◌, nat_abs}
use Rattle.model.specs.declared.Point.{Point}
use Rattle.model.specs.Acceptance.{frame}

-- "The frame: every given point lies within ±200,000,000 in both coordinates."
pub record InFrame (q : Point) : Type 0 where
  pub x : nat_abs q.x ≤ frame
  pub y : nat_abs q.y ≤ frame
