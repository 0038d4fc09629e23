-- `elements::series::arc` meets its contract: its numbers are those of the definitions.
use native.Mathlib.Omega.{arith}
use Rattle.model.specs.Series.{local_of}
use Rattle.elements.specs.Reached.{measured_by}
use Rattle.elements.proofs.series.arc.Goals as goal

pub curve-requires : goal.curve-requires
curve-requires c = record { usable = omega arith; curved = c.requires }

pub returns : goal.returns
unfolding measured_by local_of
returns c = c.curve.ensures
