-- `plane::in_frame` meets its contract: the code makes the two tests.
use Prim.Native.Nat.{◌<◌, ◌≤◌}
use mathlib.Core.Path.{ap, ◌∙◌}
use native.Mathlib.Omega.{arith}
use borrow.Author.Tests.{le-leb, lt-leb}
use lib.IntN.{nat_abs}
use mir.Facts.{to_z-of_z}
use Rattle.model.specs.Acceptance.{frame, in_frame}
use Rattle.plane.proofs.in_frame.Goals as goal

pub returns-then-magnitude-gt-FRAME : goal.returns-then-magnitude-gt-FRAME
unfolding in_frame
returns-then-magnitude-gt-FRAME c =
    let a = c in
    let x = c.magnitude.ensures ∙ ap nat_abs (to_z-of_z a.ranges.x) in
    let far : frame < c.magnitude.result = omega (arith, c.if-magnitude-gt-FRAME.true) in
    rw (← x, lt-leb _ _ far)

pub returns : goal.returns
unfolding in_frame
returns c =
    let a = c in
    let x = c.magnitude.ensures ∙ ap nat_abs (to_z-of_z a.ranges.x) in
    let y = c.magnitude-2.ensures ∙ ap nat_abs (to_z-of_z a.ranges.y) in
    let near : c.magnitude.result ≤ frame = omega (arith, c.if-magnitude-gt-FRAME.false) in
    rw (← x, le-leb _ _ near, ← y)
