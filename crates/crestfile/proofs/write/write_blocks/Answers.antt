-- `crestfile::write::write_blocks` meets its contract. The loop's invariant: the blocks of the records that are cut off stand at the front of the room, and the rest of the room is as it came.
use Prim.Native.Nat.{◌+◌, ◌*◌, ◌/◌, ◌≤◌, ◌<◌, min}
use mathlib.Core.Path.{◌≡◌, sym, ap, ap₂, ◌∙◌}
use native.Mathlib.Omega.{arith}
use lib.ListN.{length, take, drop, length-drop}
use Rattle.std.proofs.Common.{rules}
use Rattle.model.specs.Records.{put}
use Rattle.model.specs.Writer.{block}
use Rattle.fields.proofs.PartsOf.{lent_length}
use Rattle.crestfile.proofs.SoundFile.{count_fits_lem}
use Rattle.fields.proofs.Puts.{lent_back}
use Rattle.crestfile.proofs.PutBlocks.{BlocksWritten, none_written, one_more_written, all_written, next_chunk}
use Rattle.std.specs.Iterator.Adapters.{enumerate_count}
use Rattle.crestfile.proofs.write.write_blocks.Goals.{In-Some}
use Rattle.crestfile.proofs.write.write_blocks.Goals as goal

-- the records, by their number
few : (c : In-Some) → let n = length c.args.records.now in (n ≡ 32 * (n / 32)) × (n / 32 ≤ 60) × (c.in-Some.b ≡ enumerate_count c.loop-b.b-iterator) × (c.in-Some.b < (n / 32 + 14) / 15)
few c =
    let f = (count_fits_lem _).0 c.requires.records_value in
    let b = enumerate_count c.loop-b.b-iterator in
    let s = c.in-Some.ensures.steps in
    let left = ap length c.loop-b.invariant.2 ∙ length-drop (480 * b) c.args.records.now in
    (omega arith, omega arith, s.1, omega (arith, s.0.1.2))

pub loop-b-init : goal.loop-b-init
loop-b-init c = (search (rules, none_written c.args.records.now c.args.room.now), search rules, search rules)

pub slice_bounds-write_block-end : goal.slice_bounds-write_block-end
slice_bounds-write_block-end c = let f = few (goal.at.slice_bounds-write_block-end c).In-Some in omega arith

pub write_block-requires-clause-b_bound : goal.write_block-requires-clause-b_bound
write_block-requires-clause-b_bound c = omega (arith, few (goal.at.write_block-requires-clause-b_bound c).In-Some)

pub loop-b-preserved : goal.loop-b-preserved
loop-b-preserved c =
    let f = few (goal.at.loop-b-preserved c).In-Some in
    let s = c.in-Some.ensures.steps in
    let n : length c.in-Some.part.now ≡ min 480 (length (drop (480 * enumerate_count c.loop-b.b-iterator) c.args.records.now)) = s.0.1.1 ∙ ap₂ (λ k l. min k (length l)) c.loop-b.invariant.1 c.loop-b.invariant.2 in
    let cut = next_chunk c.args.records.now c.in-Some.part.now _ (enumerate_count c.loop-b.b-iterator) (sym c.loop-b.invariant.2 ∙ s.0.1.0) n in
    let room = c.loop-b.room in
    let b = c.in-Some.b in
    let w : BlocksWritten c.args.records.now c.args.room.now room b = rw s.1 c.loop-b.invariant.0 in
    let mine : c.in-Some.part.now ≡ take 480 (drop (480 * b) c.args.records.now) = rw s.1 cut.0 in
    let long = c.write_block.auto.room ∙ lent_length room (512 * b) 512 (omega arith) in (
      rw (s.2, ← s.1) (one_more_written c.args.records.now c.args.room.now (length c.args.records.now / 32) f.0 c.requires.records_in_bounds (omega arith) (lent_back room (512 * b) 512 c.write_block.new.room long ∙ ap (λ x. put room (512 * b) x) (c.write_block.ensures ∙ ap (λ x. block b x) mine)) w),
      s.0.0 ∙ c.loop-b.invariant.1,
      rw s.2 cut.1,
    )

pub returns : goal.returns
returns c =
    let s = c.in-None.ensures.steps in
    let left = sym s.0.1.0 ∙ ap length c.loop-b.invariant.2 ∙ length-drop (480 * enumerate_count c.loop-b.b-iterator) c.args.records.now in
    let f = (count_fits_lem _).0 c.requires.records_value in
    all_written _ _ (omega arith) c.loop-b.invariant.0
