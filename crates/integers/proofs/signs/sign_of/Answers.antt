-- `integers::signs::sign_of` meets its contract: the test is the sign.
use Rattle.integers.proofs.Signed.{below_zero, not_below_zero, sign_negative, sign_other}
use Rattle.integers.proofs.signs.sign_of.Goals as goal

pub returns-then-z-lt0 : goal.returns-then-z-lt0
returns-then-z-lt0 c = sign_negative (below_zero c.before.ranges.z c.if-z-lt0.true)

pub returns-else-z-lt0 : goal.returns-else-z-lt0
returns-else-z-lt0 c = sign_other (not_below_zero c.before.ranges.z c.if-z-lt0.false)
