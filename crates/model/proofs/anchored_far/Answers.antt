-- `model::anchored_far` meets its contract, kind by kind.
use mathlib.Core.Path.{sym, ap}
use Rattle.model.specs.Kinds.{anchored_far}
use Rattle.model.proofs.anchored_far.Goals as goal

pub returns-in-Line : goal.returns-in-Line
unfolding anchored_far
returns-in-Line c = sym (ap anchored_far c.in-Line.is)

pub returns-in-Arc : goal.returns-in-Arc
unfolding anchored_far
returns-in-Arc c = sym (ap anchored_far c.in-Arc.is)

pub returns-in-EntrySpiral : goal.returns-in-EntrySpiral
unfolding anchored_far
returns-in-EntrySpiral c = sym (ap anchored_far c.in-EntrySpiral.is)

pub returns-in-ExitSpiral : goal.returns-in-ExitSpiral
unfolding anchored_far
returns-in-ExitSpiral c = sym (ap anchored_far c.in-ExitSpiral.is)
