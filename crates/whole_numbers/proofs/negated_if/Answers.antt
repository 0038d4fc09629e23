-- `whole_numbers::negated_if` meets its contract, by the sign.
use native.Mathlib.Omega.{arith}
use mir.Syntax.{w64}
use mir.ValLaws.{to_z_pos}
use Rattle.whole_numbers.proofs.WholeNumbers.{minus_fits, minus_computed}
use Rattle.whole_numbers.proofs.negated_if.Goals as goal

pub overflow_sub-result : goal.overflow_sub-result
overflow_sub-result c = minus_fits c.args.magnitude c.requires

pub returns-then-negative : goal.returns-then-negative
returns-then-negative c = rw c.if-negative.true (minus_computed c.args.magnitude c.requires)

pub returns-else-negative : goal.returns-else-negative
returns-else-negative c = rw c.if-negative.false (to_z_pos w64 c.args.magnitude (omega arith))
