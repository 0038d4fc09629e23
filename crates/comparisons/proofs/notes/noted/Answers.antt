-- `comparisons::notes::noted` meets its contract: answer, display pair and run are those of the entry.
use Rattle.entries.specs.Entries.{noted_reading}
use Rattle.comparisons.specs.Notes.{noted_told}
use Rattle.comparisons.proofs.notes.noted.Goals as goal

pub returns : goal.returns
unfolding noted_told noted_reading
returns c =
    rw (c.same_answer.ensures, c.same_display.ensures, c.same_run.ensures, c.note-came.ensures.value)
