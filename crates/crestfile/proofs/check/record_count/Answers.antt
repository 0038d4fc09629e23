-- `crestfile::check::record_count` meets its contract: all blocks but the last use 15 records.
use mathlib.Core.Path.{sym}
use native.Mathlib.Omega.{arith}
use Rattle.crestfile.proofs.Count.{blocks→counted}
use Rattle.crestfile.proofs.check.record_count.Goals as goal

pub overflow_sub-last : goal.overflow_sub-last
overflow_sub-last c = omega (arith, blocks→counted _ c.requires)

pub u16_at-requires : goal.u16_at-requires
u16_at-requires c = omega (arith, blocks→counted _ c.requires)

pub returns : goal.returns
returns c = rw c.u16_at.ensures (sym (blocks→counted _ c.requires).count)
