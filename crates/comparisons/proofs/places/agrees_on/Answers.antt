-- `comparisons::places::agrees_on` meets its contract, by whether the station is on the element.
use borrow.Author.Tests.{le-leb, lt-leb}
use Rattle.comparisons.specs.Agreement.{element_agrees}
use Rattle.comparisons.proofs.places.agrees_on.Goals as goal

pub returns-then-e-s : goal.returns-then-e-s
unfolding element_agrees
returns-then-e-s c = rw (← c.u32_at-s.ensures, lt-leb _ _ c.if-e-s.true)

pub returns : goal.returns
unfolding element_agrees
returns c =
    rw (c.same.ensures, c.placed.ensures, ← c.u32_at-s.ensures, le-leb _ _ c.if-e-s.false)
