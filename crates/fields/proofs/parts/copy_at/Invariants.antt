-- `fields::parts::copy_at` meets its contract. The loop's invariant: the first `i` bytes are put.
use mathlib.Core.Path.{◌≡◌}
use lib.ListN.{length, take}
use Rattle.model.specs.Records.{put}
use Rattle.fields.proofs.parts.copy_at.Given as goal

abbrev pub invariant-loop-i : goal.invariant-loop-i
invariant-loop-i l = (length l.room ≡ length l.initial.room) × (l.room ≡ put l.initial.room l.at (take l.i l.bytes))
