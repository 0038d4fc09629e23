-- Document 01, "With (dx, dy) = P − position": residual and offset of a point.
use Rattle.model.specs.declared.Point.{Point}
use Rattle.model.specs.Judged.{residual_of, offset_of, minus}
use Rattle.nearest.specs.declared.sides.Sides.{Sides}

-- "residual = near(Tx·dx + Ty·dy, ONE), offset = near(Tx·dy − Ty·dx, ONE)" of a point q, at a position with its tangent
unfoldable pub sides_of : Point → Point → Point → Sides
unfolding residual_of offset_of minus
sides_of position tangent q = let d = minus q position in record { residual = residual_of tangent d; offset = offset_of tangent d }
