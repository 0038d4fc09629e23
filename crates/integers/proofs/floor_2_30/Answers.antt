-- `integers::floor_2_30` meets its contract: the shift right rounds down.
use Rattle.std.proofs.Common.{◌^◌, w64}
use Rattle.integers.proofs.Floor.{shifted}
use Rattle.integers.proofs.floor_2_30.Goals as goal

pub returns : goal.returns
returns c = shifted w64 c.args.n (2 ^ 30) c.ranges.n
