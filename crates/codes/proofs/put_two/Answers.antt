-- `codes::put_two` meets its contract: two fields, one after the other, each of a number of 32 bits.
use Prim.Native.Nat.{◌+◌}
use mathlib.Core.Path.{refl}
use Rattle.codes.proofs.Casts.{then_put}
use Rattle.codes.proofs.put_two.Goals as goal

pub returns : goal.returns
returns c =
    let a = c.args in
    then_put (a.at + 4) a.b c.ranges.b c.requires.sfits_2
    (then_put {l = a.room.now} a.at a.a c.ranges.a c.requires.sfits refl c.put_i32.ensures)
    c.put_i32-2.ensures
