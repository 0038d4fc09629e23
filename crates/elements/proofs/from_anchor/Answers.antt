-- `elements::from_anchor` meets its contract: from the start, or from the far end.
use mathlib.Core.Path.{sym, ap}
use Rattle.model.specs.Series.{from_anchor}
use Rattle.elements.proofs.from_anchor.Goals as goal

pub returns-then-far : goal.returns-then-far
unfolding from_anchor
returns-then-far c = ap (λ b. from_anchor b c.args.length c.args.s) (sym c.if-far.true)

pub returns-else-far : goal.returns-else-far
unfolding from_anchor
returns-else-far c = ap (λ b. from_anchor b c.args.length c.args.s) (sym c.if-far.false)
