-- `comparisons::points::same` meets its contract: a case for each answer.
use borrow.Author.Rules.{rules}
use mir.Syntax.{w64}
use mir.ValLaws.{to_z-of_z}
use Rattle.comparisons.specs.Agreement.{located_is}
use Rattle.comparisons.proofs.points.same.Goals as goal

pub returns-in-At : goal.returns-in-At
unfolding located_is
returns-in-At c =
    rw (
      c.in-At.is,
      c.u32_at-number.ensures,
      c.says.ensures,
      to_z-of_z w64 c.in-At.offset (search rules),
      to_z-of_z w64 c.in-At.residual (search rules),
    )

pub returns-in-Refused : goal.returns-in-Refused
unfolding located_is
returns-in-Refused c =
    rw (c.in-Refused.is, c.u32_at-number.ensures, c.says-in-Refused.ensures)
