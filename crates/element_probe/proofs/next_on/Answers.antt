-- `element_probe::next_on` meets its contract: the test is the definition's.
use native.Mathlib.Omega.{arith}
use borrow.Author.Tests.{lt-ltb, le-ltb}
use Rattle.element_probe.specs.Sums.{next_on}
use Rattle.element_probe.proofs.next_on.Goals as goal

pub returns-then-s-length : goal.returns-then-s-length
unfolding next_on
returns-then-s-length c = rw (lt-ltb _ _ c.if-s-length.true)

pub returns-else-s-length : goal.returns-else-s-length
unfolding next_on
returns-else-s-length c = rw (le-ltb c.args.s c.args.length (omega arith))
