-- `crestfile::check::check_each` meets its contract. The loop's invariant: by any rules that the check tells, the blocks before `b` refuse nothing.
use Prim.Native.Nat.{ℕ, ◌<◌}
use mathlib.Core.List.{List}
use mathlib.Core.Path.{◌≡◌}
use Rattle.model.specs.Records.{block_count, block_of}
use Rattle.model.specs.Refusals.{Rule, verdict}
use Rattle.model.proofs.InSteps.{Left}
use Rattle.crestfile.proofs.check.check_each.Given as goal

abbrev pub invariant-loop-b : goal.invariant-loop-b
invariant-loop-b g l =
    (rules : ℕ → List Rule)
    → ((b : ℕ) (block : _) (told : _) → goal.F-post g l.check b block told → b < block_count l.file → block.now ≡ block_of l.file b → told ≡ verdict (rules b))
    → Left rules (block_count l.file) l.b
