-- `rounding::near_even` meets its contract: n and half the divisor, less what is taken off, over the divisor, rounded down.
use Rattle.rounding.proofs.Quotients.{near_even}
use Rattle.rounding.proofs.near_even.Goals as goal

pub returns : goal.returns
returns c sign s e = near_even sign c.args.n c.args.d s e c.requires.divisor c.requires.even
