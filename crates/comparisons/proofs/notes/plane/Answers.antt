-- `comparisons::notes::plane` meets its contract: both numbers are the row's.
use Rattle.comparisons.proofs.notes.plane.Goals as goal

pub returns : goal.returns
returns c = rw (c.float-x.ensures, c.u64_at.ensures, c.float-y.ensures, c.u64_at-2.ensures)
