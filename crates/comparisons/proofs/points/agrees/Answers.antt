-- `comparisons::points::agrees` meets its contract: the point is the row's.
use mir.Syntax.{w64}
use mir.ValLaws.{to_z-of_z}
use Rattle.comparisons.specs.Agreement.{point_agrees}
use Rattle.comparisons.proofs.points.agrees.Goals as goal

pub returns : goal.returns
unfolding point_agrees
returns c =
    rw (
      c.same.ensures,
      c.locate.ensures.value,
      to_z-of_z w64 c.cast_signed.result (record { sfits = c.cast_signed.type_inv }),
      to_z-of_z w64 c.cast_signed-2.result (record { sfits = c.cast_signed-2.type_inv }),
      c.cast_signed.ensures,
      c.u64_at.ensures,
      c.cast_signed-2.ensures,
      c.u64_at-2.ensures,
    )
