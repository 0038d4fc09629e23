-- `integers::magnitude` meets its contract, by the sign.
use Rattle.std.proofs.Common.{nat_abs, ap, arith}
use Rattle.integers.proofs.Signed.{not_negative, negative, complement_casts}
use Rattle.integers.proofs.magnitude.Goals as goal

pub overflow_cast-result : goal.overflow_cast-result
overflow_cast-result c = (not_negative c.before.args.z c.before.ranges.z c.if-z-ge0.true).0

pub overflow_cast-result-else-z-ge0 : goal.overflow_cast-result-else-z-ge0
overflow_cast-result-else-z-ge0 c =
    let f = c.before.ranges.z in
    complement_casts _ f (negative _ f c.if-z-ge0.false)

pub overflow_add-result : goal.overflow_add-result
overflow_add-result c =
    let n = negative _ c.before.ranges.z c.if-z-ge0.false in
    omega (arith, ap nat_abs n.is)

pub returns-else-z-ge0 : goal.returns-else-z-ge0
returns-else-z-ge0 c =
    let n = negative _ c.before.ranges.z c.if-z-ge0.false in
    omega (arith, ap nat_abs n.is)
