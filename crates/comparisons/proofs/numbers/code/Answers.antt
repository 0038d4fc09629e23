-- `comparisons::numbers::code` meets its contract: a case for each number.
use borrow.Author.Rules.{rules}
use mir.Syntax.{w64}
use mir.ValLaws.{to_z-of_z}
use Rattle.comparisons.specs.Agreement.{number_code}
use Rattle.comparisons.proofs.numbers.code.Goals as goal

pub returns-in-Is : goal.returns-in-Is
unfolding number_code
returns-in-Is c = rw (c.in-Is.is, to_z-of_z w64 c.in-Is.z (search rules))

pub returns-then-negative : goal.returns-then-negative
unfolding number_code
returns-then-negative c = rw (c.in-Beyond.is, c.if-negative.true)

pub returns-else-negative : goal.returns-else-negative
unfolding number_code
returns-else-negative c = rw (c.in-Beyond.is, c.if-negative.false)

pub returns-in-Not : goal.returns-in-Not
unfolding number_code
returns-in-Not c = rw c.in-Not.is
