-- `comparisons::notes::acknowledged` meets its contract: no answer, no display pair, and the run.
use Rattle.comparisons.specs.Notes.{answer_says, acknowledged_told}
use Rattle.comparisons.proofs.notes.acknowledged.Goals as goal

pub returns : goal.returns
unfolding answer_says acknowledged_told
returns c =
    rw (
      c.same_head.ensures,
      c.is_at.ensures,
      c.is_at-2.ensures,
      c.is_at-3.ensures,
      c.is_at-4.ensures,
      c.is_at-5.ensures,
      c.is_at-6.ensures,
      c.same_run.ensures,
    )
