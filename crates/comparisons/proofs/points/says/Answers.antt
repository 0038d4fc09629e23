-- `comparisons::points::says` meets its contract, number by number.
use mir.Syntax.{w64}
use mir.ValLaws.{to_z-of_z}
use Rattle.comparisons.specs.Agreement.{point_says}
use Rattle.comparisons.proofs.points.says.Goals as goal

pub returns : goal.returns
unfolding point_says
returns c =
    rw (
      c.is_at.ensures,
      c.is_at-2.ensures,
      c.u32_at.ensures,
      c.u32_at-2.ensures,
      to_z-of_z w64 _ c.ranges.offset,
      to_z-of_z w64 _ c.ranges.residual,
    )
