-- `comparisons::moves::same` meets its contract: a case for each answer.
use borrow.Author.Rules.{rules}
use mir.Syntax.{w64}
use mir.ValLaws.{to_z-of_z}
use Rattle.comparisons.specs.Agreement.{move_is}
use Rattle.comparisons.proofs.moves.same.Goals as goal

pub returns-in-By : goal.returns-in-By
unfolding move_is
returns-in-By c =
    rw (
      c.in-By.is,
      c.u32_at-number.ensures,
      c.is_at.ensures,
      c.is_at-in-By.ensures,
      to_z-of_z w64 c.in-By.forward (search rules),
      to_z-of_z w64 c.in-By.left (search rules),
    )

pub returns-in-Refused : goal.returns-in-Refused
unfolding move_is
returns-in-Refused c =
    rw (c.in-Refused.is, c.u32_at-number.ensures, c.is_at-in-Refused.ensures, c.is_at-in-Refused-2.ensures)
