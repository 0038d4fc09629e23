-- `comparisons::notes::same_display` meets its contract, number by number.
use Rattle.comparisons.specs.Notes.{display_is_at}
use Rattle.comparisons.proofs.notes.same_display.Goals as goal

pub returns : goal.returns
unfolding display_is_at
returns c = rw (c.float_is_at.ensures, c.float_is_at-2.ensures)
