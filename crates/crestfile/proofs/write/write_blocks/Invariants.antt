-- `crestfile::write::write_blocks` meets its contract. The loop's invariant: the blocks of the records that are cut off stand at the front of the room, and the rest of the room is as it came.
use Prim.Native.Nat.{◌*◌}
use mathlib.Core.Path.{◌≡◌}
use lib.ListN.{drop}
use Rattle.std.specs.Slice.Iter.{chunks_rest, chunks_size}
use Rattle.std.specs.Iterator.Adapters.{enumerate_source, enumerate_count}
use Rattle.crestfile.proofs.PutBlocks.{BlocksWritten}
use Rattle.crestfile.proofs.write.write_blocks.Given as goal

abbrev pub invariant-loop-b : goal.invariant-loop-b
invariant-loop-b l =
    let b = enumerate_count l.b-iterator in
    BlocksWritten l.records l.initial.room l.room b
    × (chunks_size (enumerate_source l.b-iterator) ≡ 480)
    × (chunks_rest (enumerate_source l.b-iterator) ≡ drop (480 * b) l.records)
