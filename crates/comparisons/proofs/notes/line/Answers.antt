-- `comparisons::notes::line` meets its contract: both numbers are the row's.
use Rattle.comparisons.proofs.notes.line.Goals as goal

pub returns : goal.returns
returns c = rw (c.float-station.ensures, c.u64_at.ensures, c.float-offset.ensures, c.u64_at-2.ensures)
