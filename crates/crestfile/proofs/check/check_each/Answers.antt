-- `crestfile::check::check_each` meets its contract. The loop's invariant: by any rules that the check tells, the blocks before `b` refuse nothing.
use Prim.Native.Nat.{◌<◌}
use mathlib.Core.List.{[]}
use mathlib.Core.Path.{sym, ◌∙◌}
use native.Mathlib.Omega.{arith}
use Rattle.model.specs.Records.{block_count}
use Rattle.model.proofs.InSteps.{left_next, left_refused, left_none}
use Rattle.crestfile.proofs.Chunks.{chunk_block}
use Rattle.crestfile.proofs.check.check_each.Goals as goal

pub returns-in-Refused : goal.returns-in-Refused
returns-in-Refused g c = λ rules tells.
    let b = c.loop-b.b in
    let file = c.args.file.now in
    let n = c.as_chunks.ensures.front_len in
    let h : b < block_count file = omega arith in
    let told = tells b _ _ c.check.ensures h (rw c.as_chunks.ensures.front (chunk_block file (block_count file) b [] h)) in
    sym (left_refused rules (block_count file) h (sym told ∙ c.in-Refused.is) (c.loop-b.invariant rules tells))

pub loop-b-preserved : goal.loop-b-preserved
loop-b-preserved g c = λ rules tells.
    let b = c.loop-b.b in
    let file = c.args.file.now in
    let n = c.as_chunks.ensures.front_len in
    let h : b < block_count file = omega arith in
    let told = tells b _ _ c.check.ensures h (rw c.as_chunks.ensures.front (chunk_block file (block_count file) b [] h)) in
    left_next rules (block_count file) h (sym told ∙ c.in-Done.is) (c.loop-b.invariant rules tells)

pub returns : goal.returns
returns g c = λ rules tells.
    let n = c.as_chunks.ensures.front_len in
    sym (left_none rules (block_count c.args.file.now) (omega arith) (c.loop-b.invariant rules tells))
