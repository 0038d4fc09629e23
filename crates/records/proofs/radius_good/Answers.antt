-- `records::radius_good` meets its contract: a case for each shape.
use Rattle.model.specs.Acceptance.{radius_good}
use Rattle.records.proofs.radius_good.Goals as goal

pub returns-in-Straight : goal.returns-in-Straight
unfolding radius_good
returns-in-Straight c = rw c.in-Straight.is

pub returns-in-Circular : goal.returns-in-Circular
unfolding radius_good
returns-in-Circular c = rw c.in-Circular.is c.between.ensures

pub returns-in-Clothoid : goal.returns-in-Clothoid
unfolding radius_good
returns-in-Clothoid c = rw c.in-Clothoid.is c.between-in-Clothoid.ensures
