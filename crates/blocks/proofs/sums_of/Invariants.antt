-- `blocks::sums_of` meets its contract. The loop's invariant: a and b are the sums of the bytes before `i`, so that with those of the rest they are the whole sums.
use Rattle.blocks.proofs.Summed.{Summed}
use Rattle.blocks.proofs.sums_of.Given as goal

abbrev pub invariant-loop-i : goal.invariant-loop-i
invariant-loop-i l = Summed l.block l.a l.b l.i
