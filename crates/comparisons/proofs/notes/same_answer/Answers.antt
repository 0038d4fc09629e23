-- `comparisons::notes::same_answer` meets its contract: a case for each answer.
use borrow.Author.Rules.{rules}
use mir.Syntax.{w64}
use mir.ValLaws.{to_z-of_z}
use Rattle.comparisons.specs.Notes.{answer_says, answer_is}
use Rattle.comparisons.proofs.notes.same_answer.Goals as goal

pub returns-in-PlanePoint : goal.returns-in-PlanePoint
unfolding answer_says answer_is
returns-in-PlanePoint c =
    rw (
      c.in-PlanePoint.is,
      c.same_head.ensures,
      c.u64_at.ensures,
      c.is_at.ensures,
      c.is_at-in-PlanePoint.ensures,
      c.u64_at-in-PlanePoint.ensures,
      to_z-of_z w64 c.in-PlanePoint.offset (search rules),
      to_z-of_z w64 c.in-PlanePoint.residual (search rules),
    )

pub returns-in-LinePlace : goal.returns-in-LinePlace
unfolding answer_says answer_is
returns-in-LinePlace c =
    rw (
      c.in-LinePlace.is,
      c.same_head-in-LinePlace.ensures,
      c.is_at-in-LinePlace.ensures,
      c.is_at-in-LinePlace-2.ensures,
      c.is_at-in-LinePlace-3.ensures,
      c.is_at-in-LinePlace-4.ensures,
      to_z-of_z w64 c.in-LinePlace.x (search rules),
      to_z-of_z w64 c.in-LinePlace.y (search rules),
    )

pub returns-in-Refused : goal.returns-in-Refused
unfolding answer_says answer_is
returns-in-Refused c =
    rw (c.in-Refused.is, c.same_head-in-Refused.ensures, c.is_at-in-Refused.ensures, c.is_at-in-Refused-2.ensures, c.is_at-in-Refused-3.ensures, c.is_at-in-Refused-4.ensures)
