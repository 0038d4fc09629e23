-- `nearest::sides::after_end` meets its contract: the code makes the two tests.
use borrow.Author.Tests.{eq-eqb, ne_eqb}
use mir.Facts.{to_z-of_z}
use Rattle.nearest.proofs.sides.after_end.Goals as goal

pub returns-then-s-t : goal.returns-then-s-t
returns-then-s-t c = rw (to_z-of_z c.ranges.residual, eq-eqb _ _ c.if-s-t.true)

pub returns-else-s-t : goal.returns-else-s-t
returns-else-s-t c = rw (ne_eqb _ _ c.if-s-t.false)
