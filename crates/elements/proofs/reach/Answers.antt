-- `elements::reach` meets its contract: each kind's shape and anchor are those of the definitions, its angle is t, and the series at it u and v.
use mathlib.Core.Path.{◌≡◌, refl, ap}
use Prim.Native.Nat.{ℕ}
use native.Mathlib.Omega.{arith}
use Rattle.model.specs.declared.Kind.{Kind}
use Rattle.model.specs.declared.Shape.TheVariants.{Straight, Circular, Clothoid}
use Rattle.model.specs.Kinds.{shape_of, anchored_far}
use Rattle.model.specs.Series.{from_anchor}
use Rattle.elements.specs.Reached.{quotient_of}
use Rattle.elements.proofs.Reaching.{From, on_element_lem, from_within, arc_asked, spiral_asked, curve_asked, reached, line_measured}
use Rattle.elements.proofs.reach.Goals.{After-from_anchor, After-from_anchor-l, After-from_anchor-l-in-EntrySpiral, After-from_anchor-l-in-ExitSpiral}
use Rattle.elements.proofs.reach.Goals as goal

-- the length that a kind's arm takes
from : {k j : Kind} {n s l : ℕ} → k ≡ j → l ≡ from_anchor (anchored_far j) n s → From k (shape_of j) n s l
from {n = n} {s} e q = record { shaped = ap shape_of e; from = rw e q }

pub from_anchor-requires : goal.from_anchor-requires
from_anchor-requires c = (on_element_lem c.requires).0

line_from : (c : After-from_anchor) → let a = c.args in From a.kind Straight a.length a.s c.from_anchor.result
unfolding shape_of anchored_far
line_from c = from c.in-Line.is c.from_anchor.ensures

pub overflow_mul-result : goal.overflow_mul-result
overflow_mul-result c = omega (arith, from_within c.requires (line_from c))

pub from_anchor-l-requires : goal.from_anchor-l-requires
from_anchor-l-requires c = (on_element_lem c.requires).0

arc_from : (c : After-from_anchor-l) → let a = c.args in From a.kind Circular a.length a.s c.from_anchor-l.result
unfolding shape_of anchored_far
arc_from c = from c.in-Arc.is c.from_anchor-l.ensures

pub arc_angle-requires : goal.arc_angle-requires
arc_angle-requires c = arc_asked c.requires (arc_from c)

pub arc-requires : goal.arc-requires
unfolding quotient_of
arc-requires c = curve_asked c.requires Circular (arc_from c.before) c.arc_angle.ensures

pub from_anchor-l-requires-in-EntrySpiral : goal.from_anchor-l-requires-in-EntrySpiral
from_anchor-l-requires-in-EntrySpiral c = (on_element_lem c.requires).0

entry_from : (c : After-from_anchor-l-in-EntrySpiral) → let a = c.args in From a.kind Clothoid a.length a.s c.from_anchor-l-in-EntrySpiral.result
unfolding shape_of anchored_far
entry_from c = from c.in-EntrySpiral.is c.from_anchor-l-in-EntrySpiral.ensures

pub spiral_angle-requires : goal.spiral_angle-requires
spiral_angle-requires c = spiral_asked c.requires (entry_from c)

pub spiral-requires : goal.spiral-requires
unfolding quotient_of
spiral-requires c = curve_asked c.requires Clothoid (entry_from c.before) c.spiral_angle.ensures

pub from_anchor-l-requires-in-ExitSpiral : goal.from_anchor-l-requires-in-ExitSpiral
from_anchor-l-requires-in-ExitSpiral c = (on_element_lem c.requires).0

exit_from : (c : After-from_anchor-l-in-ExitSpiral) → let a = c.args in From a.kind Clothoid a.length a.s c.from_anchor-l-in-ExitSpiral.result
unfolding shape_of anchored_far
exit_from c = from c.in-ExitSpiral.is c.from_anchor-l-in-ExitSpiral.ensures

pub spiral_angle-requires-in-ExitSpiral : goal.spiral_angle-requires-in-ExitSpiral
spiral_angle-requires-in-ExitSpiral c = spiral_asked c.requires (exit_from c)

pub spiral-requires-in-ExitSpiral : goal.spiral-requires-in-ExitSpiral
unfolding quotient_of
spiral-requires-in-ExitSpiral c = curve_asked c.requires Clothoid (exit_from c.before) c.spiral_angle-in-ExitSpiral.ensures

pub returns-in-Line : goal.returns-in-Line
unfolding quotient_of
returns-in-Line c x = reached x Straight (line_from c) refl _ (λ t h e. line_measured _ t)

pub returns-in-Arc : goal.returns-in-Arc
unfolding quotient_of
returns-in-Arc c x = reached x Circular (arc_from c.before.before) c.arc_angle.ensures _ c.arc.ensures

pub returns-in-EntrySpiral : goal.returns-in-EntrySpiral
unfolding quotient_of
returns-in-EntrySpiral c x = reached x Clothoid (entry_from c.before.before) c.spiral_angle.ensures _ c.spiral.ensures

pub returns-in-ExitSpiral : goal.returns-in-ExitSpiral
unfolding quotient_of
returns-in-ExitSpiral c x = reached x Clothoid (exit_from c.before.before) c.spiral_angle-in-ExitSpiral.ensures _ c.spiral-in-ExitSpiral.ensures
