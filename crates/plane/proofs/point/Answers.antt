-- `plane::point` meets its contract: the casts keep both numbers.
use Rattle.integers.proofs.Held.{wide_fits, widened}
use Rattle.plane.proofs.point.Goals as goal

pub overflow_cast-result : goal.overflow_cast-result
overflow_cast-result c = search wide_fits

pub overflow_cast-result-2 : goal.overflow_cast-result-2
overflow_cast-result-2 c = search wide_fits

pub returns : goal.returns
returns c = rw (widened c.args.x c.ranges.x, widened c.args.y c.ranges.y)
