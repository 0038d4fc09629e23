-- `walk::passes::own_of` meets its contract, by whether the element is the last.
use Rattle.walk.proofs.passes.own_of.Goals as goal

pub returns-then-last : goal.returns-then-last
returns-then-last c = rw c.if-last.true

pub returns : goal.returns
returns c = rw c.if-last.false
