-- `sightings::is_sight` meets its contract, by the sign.
use mathlib.Core.Bool.{false}
use mathlib.Core.Path.{◌≡◌, ap, ◌∙◌}
use lib.Dec.{leb}
use lib.IntN.{pos, nat_abs}
use lib.Signed.{lt_z}
use mir.Facts.{to_z-of_z}
use Rattle.integers.proofs.Held.{wide_fits, widened}
use Rattle.integers.proofs.Tests.{below_0, not_below_0}
use Rattle.model.specs.Sightings.{longest_sight, is_sight}
use Rattle.sightings.proofs.is_sight.Goals.{Else-d-lt0}
use Rattle.sightings.proofs.is_sight.Goals as goal

pub returns-then-d-lt0 : goal.returns-then-d-lt0
unfolding is_sight
returns-then-d-lt0 c =
    let s = c in
    rw (below_0 s.args.d (rw (to_z-of_z s.ranges.d) at c.if-d-lt0.true))

pub overflow_cast-d : goal.overflow_cast-d
overflow_cast-d c = let s = c in wide_fits s.args.d s.ranges.d

from_zero : (c : Else-d-lt0) → lt_z c.args.d (pos 0) ≡ false
from_zero c = rw (to_z-of_z c.ranges.d) at c.if-d-lt0.false

pub returns : goal.returns
unfolding is_sight
returns c =
    let s = c in
    rw (not_below_0 s.args.d (from_zero c.before)) (ap (λ n. leb n longest_sight) (c.magnitude.ensures ∙ ap nat_abs (widened s.args.d s.ranges.d)))
