-- `nearest::sides::before_start` meets its contract: the code makes the two tests.
use borrow.Author.Tests.{eq-eqb, ne_eqb}
use mir.Facts.{to_z-of_z}
use Rattle.nearest.proofs.sides.before_start.Goals as goal

pub returns-then-s-eq0 : goal.returns-then-s-eq0
returns-then-s-eq0 c = rw (to_z-of_z c.ranges.residual, eq-eqb _ _ c.if-s-eq0.true)

pub returns-else-s-eq0 : goal.returns-else-s-eq0
returns-else-s-eq0 c = rw (ne_eqb _ _ c.if-s-eq0.false)
