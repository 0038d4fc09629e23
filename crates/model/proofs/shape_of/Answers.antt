-- `model::shape_of` meets its contract, kind by kind.
use mathlib.Core.Path.{sym, ap}
use Rattle.model.specs.Kinds.{shape_of}
use Rattle.model.proofs.shape_of.Goals as goal

pub returns-in-Line : goal.returns-in-Line
unfolding shape_of
returns-in-Line c = sym (ap shape_of c.in-Line.is)

pub returns-in-Arc : goal.returns-in-Arc
unfolding shape_of
returns-in-Arc c = sym (ap shape_of c.in-Arc.is)

pub returns-in-EntrySpiral : goal.returns-in-EntrySpiral
unfolding shape_of
returns-in-EntrySpiral c = sym (ap shape_of c.in-EntrySpiral.is)

pub returns-in-ExitSpiral : goal.returns-in-ExitSpiral
unfolding shape_of
returns-in-ExitSpiral c = sym (ap shape_of c.in-ExitSpiral.is)
