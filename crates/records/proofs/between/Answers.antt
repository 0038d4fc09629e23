-- `records::between` meets its contract: the code makes the two tests.
use borrow.Author.Tests.{le-leb, lt-leb}
use Rattle.records.proofs.between.Goals as goal

pub returns-then-x-low : goal.returns-then-x-low
returns-then-x-low c = rw (lt-leb _ _ c.if-x-low.true)

pub returns : goal.returns
returns c = rw (le-leb _ _ c.if-x-low.false)
