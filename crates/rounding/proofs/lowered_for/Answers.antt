-- `rounding::lowered_for` meets its contract: the sign is what is taken off.
use mathlib.Core.Path.{refl}
use Rattle.rounding.specs.Rounded.{lowered}
use Rattle.rounding.proofs.lowered_for.Goals as goal

pub returns : goal.returns
unfolding lowered
returns c = refl
