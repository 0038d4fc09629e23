-- `comparisons::notes::same_run` meets its contract: the fields, and the zero.
use Rattle.comparisons.specs.Notes.{run_in}
use Rattle.comparisons.proofs.notes.same_run.Goals as goal

pub returns : goal.returns
unfolding run_in
returns c = rw (c.same_fields.ensures, c.spelt.ensures, c.u16_at.ensures)
