-- What the frame's test says of a point.
use mathlib.Core.Bool.{true}
use mathlib.Core.Path.{◌≡◌}
use lib.IntN.{nat_abs}
use Rattle.integers.proofs.Tests.{le_test, both_tests}
use Rattle.model.specs.declared.Point.{Point}
use Rattle.model.specs.Acceptance.{frame, in_frame}
use Rattle.plane.specs.Frame.{InFrame}

pub framed : (q : Point) → in_frame q.x q.y ≡ true → InFrame q
unfolding in_frame
framed q e = let b = (both_tests (le_test (nat_abs q.x) frame) (le_test (nat_abs q.y) frame)).0 e in record { x = b.0; y = b.1 }
