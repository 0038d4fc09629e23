-- `records::ranges_good` meets its contract: the tests of length, radius and anchor, in the definition's order.
use mathlib.Core.Bool.{true, and-eq-true_iff}
use mathlib.Core.Path.{◌≡◌, sym, ap, ap₂, ◌∙◌}
use borrow.Author.Tests.{leb-true}
use lib.Dec.{leb}
use lib.IntN.{nat_abs}
use mir.Facts.{to_z-of_z}
use mir.Syntax.{w64}
use Rattle.model.specs.Kinds.{shape_of}
use Rattle.model.specs.Acceptance.{longest_element, length_good, radius_good, in_frame, ranges_good}
use Rattle.records.proofs.ranges_good.Goals.{After-radius_good, Else-not-between}
use Rattle.records.proofs.ranges_good.Goals as goal

length_good_lem : (c : Else-not-between) → length_good c.args.e.length ≡ true
unfolding length_good
length_good_lem c = sym c.between.ensures ∙ c.if-not-between.false

radius_tested : (c : After-radius_good) → let e = c.args.e in radius_good (shape_of e.kind) e.length (nat_abs e.radius) ≡ c.radius_good.result
radius_tested c =
    let e = c.args.e in
    let back = to_z-of_z {w = w64} {z = e.radius} (record { sfits = c.struct_told-1.given.1.1.1.1.1.1.0.1 }) in
    let size : c.magnitude.result ≡ nat_abs e.radius = c.magnitude.ensures ∙ ap nat_abs back in
    rw (← size, ← c.shape_of.ensures) (sym c.radius_good.ensures)

pub returns-then-not-between : goal.returns-then-not-between
unfolding ranges_good length_good
returns-then-not-between c = rw (← c.between.ensures, c.if-not-between.true)

pub radius_good-requires : goal.radius_good-requires
unfolding length_good
radius_good-requires c =
    let l = c.args.e.length in
    leb-true l longest_element ((and-eq-true_iff (leb 1 l) (leb l longest_element)).0 (length_good_lem (goal.at.radius_good-requires c).Else-not-between)).1

pub returns-then-not-radius_good : goal.returns-then-not-radius_good
unfolding ranges_good
returns-then-not-radius_good c =
    let d = c.before.before.before.before.before in
    rw (length_good_lem d, radius_tested (goal.at.returns-then-not-radius_good c).After-radius_good, c.if-not-radius_good.true)

pub returns : goal.returns
unfolding ranges_good
returns c =
    let e = c in
    let d = e.before.before.before.before.before in
    let a = d.args.e in
    let told = c.struct_told-3-1.given in
    let x = to_z-of_z {w = w64} {z = a.x} (record { sfits = told.1.1.0.1 }) in
    let y = to_z-of_z {w = w64} {z = a.y} (record { sfits = told.1.1.1.0.1 }) in
    rw (length_good_lem (goal.at.returns c).Else-not-between, radius_tested (goal.at.returns c).After-radius_good, e.if-not-radius_good.false) (c.in_frame.ensures ∙ ap₂ in_frame x y)
