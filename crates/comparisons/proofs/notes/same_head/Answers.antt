-- `comparisons::notes::same_head` meets its contract, number by number.
use Rattle.comparisons.specs.Notes.{head_is}
use Rattle.comparisons.proofs.notes.same_head.Goals as goal

pub returns : goal.returns
unfolding head_is
returns c = rw (c.u16_at.ensures, c.u16_at-2.ensures)
