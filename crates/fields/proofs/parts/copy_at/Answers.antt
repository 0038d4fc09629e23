-- `fields::parts::copy_at` meets its contract. The loop's invariant: the first `i` bytes are put.
use Prim.Native.Nat.{◌+◌}
use mathlib.Core.Path.{refl, sym, ap, ◌∙◌}
use native.Mathlib.Omega.{arith}
use lib.ListN.{set, length-set}
use Rattle.model.specs.Records.{byte_at}
use Rattle.fields.proofs.Puts.{put_none, copied_more}
use Rattle.fields.proofs.parts.copy_at.Goals as goal

pub loop-i-init : goal.loop-i-init
loop-i-init c = (refl, sym (put_none _ _))

pub loop-i-preserved : goal.loop-i-preserved
loop-i-preserved c =
    let l = c.loop-i in
    let a = c.args in
    (rw length-set l.invariant.0, ap (λ x. set x (a.at + l.i) (byte_at a.bytes.now l.i)) l.invariant.1 ∙ copied_more _ a.at _ l.i (omega arith) (omega arith))
