-- `blocks::sums_of` meets its contract: a and b are the sums of the bytes before `i`, and at the end of all.
use Prim.Native.Nat.{ℕ, ◌%◌}
use mathlib.Core.Path.{◌≡◌, sym, ap, ◌∙◌}
use Rattle.std.proofs.Common.{rules}
use native.Mathlib.Omega.{arith}
use lib.Seq.{get_or-take, length-take-le}
use Rattle.model.specs.Records.{byte_at, sum_a, sum_b}
use Rattle.blocks.proofs.Summed.{summed_one_more, summed_all}
use Rattle.blocks.proofs.sums_of.Goals as goal

pub loop-i-preserved : goal.loop-i-preserved
loop-i-preserved c =
    let at = c.loop-i in
    let n = length-take-le 508 c.args.block.now c.requires in
    let same : c.from.result ≡ c.from-a.result = c.from.ensures ∙ sym c.from-a.ensures in
    let here : c.from-a.result ≡ byte_at c.args.block.now at.i = c.from-a.ensures ∙ get_or-take 508 c.args.block.now at.i 0 (omega arith) in
    rw same (summed_one_more (search rules) (omega arith) here (rw here (c.type_inv.block at.i).fits) at.invariant)

pub returns : goal.returns
unfolding sum_a sum_b
returns c =
    let n = length-take-le 508 c.args.block.now c.requires in
    let e = summed_all (search rules) (omega arith) c.loop-i.invariant in
    (sym (ap (λ (n : ℕ). n % 65536) e.0), sym (ap (λ (n : ℕ). n % 65536) e.1))
