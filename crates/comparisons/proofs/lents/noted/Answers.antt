-- `comparisons::lents::noted` meets its contract: answer and run are those of the run that was lent.
use Rattle.comparisons.specs.Notes.{lent_told}
use Rattle.comparisons.proofs.lents.noted.Goals as goal

pub returns : goal.returns
unfolding lent_told
returns c =
    rw (c.same_answer.ensures, c.same_run.ensures, c.note-came.ensures)
