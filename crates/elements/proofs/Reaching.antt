-- The angle, u and v from the numbers of an element that is prepared, at the length from its anchor.
use mathlib.Core.Path.{◌≡◌, ◌∙◌, ap}
use Prim.Native.Nat.{ℕ, ◌*◌, ◌^◌, ◌<◌, ◌≤◌}
use native.Mathlib.Omega.{arith}
use lib.IntN.{pos}
use Rattle.integers.specs.Signs.{with_sign, sign_of}
use Rattle.integers.proofs.Signed.{sign_zero}
use Rattle.model.specs.declared.Kind.{Kind}
use Rattle.model.specs.declared.Shape.{Shape}
use Rattle.model.specs.declared.Shape.TheVariants.{Straight, Circular, Clothoid}
use Rattle.model.specs.declared.Element.{Element}
use Rattle.model.specs.Kinds.{shape_of, anchored_far}
use Rattle.model.specs.Acceptance.{longest_element, widest}
use Rattle.model.specs.Series.{local_of, from_anchor, whole_length, length_at}
use Rattle.model.proofs.Accepted.{numbers}
use Rattle.rounding.specs.Rounded.{lowered}
use Rattle.elements.specs.declared.series.Magnitudes.{Magnitudes}
use Rattle.elements.specs.Reached.{Curved, measured, measured_by, measured_at, quotient_of, Reachable, of, element_reached}
use Rattle.elements.proofs.Angle.{length_at_whole}
use Rattle.elements.proofs.Preparing.{arc_asks, spiral_asks, curved, measured_is}

-- l is the length from the anchor of a kind of this shape
pub record From (k : Kind) (shape : Shape) (length s l : ℕ) : Type 0 where
  pub shaped : shape_of k ≡ shape
  pub from : l ≡ from_anchor (anchored_far k) length s

at : (e : Element) {shape : Shape} {s l : ℕ} → From e.kind shape e.length s l → l ≡ length_at e s
unfolding length_at
at e f = f.from

within : (e : Element) {shape : Shape} {s l : ℕ} → s ≤ e.length → From e.kind shape e.length s l → l ≤ whole_length e
within e b f = omega (arith, at e f, length_at_whole e b)

pub on_element_lem : {k : Kind} {n o d h s : ℕ} → Reachable k n o d h s → (s ≤ n) × (n ≤ longest_element)
on_element_lem (of p s y b) = (b, (numbers y.accepted).longest)

pub from_within : {k : Kind} {n o d h s : ℕ} → Reachable k n o d h s → {shape : Shape} {l : ℕ} → From k shape n s l → l ≤ longest_element
from_within (of p s y b) f = omega (arith, within p.element b f, (numbers y.accepted).longest)

pub arc_asked : {k : Kind} {n o d h s : ℕ} → Reachable k n o d h s → {l : ℕ} → From k Circular n s l → (l ≤ longest_element) × (h ≤ widest) × (1 ≤ d)
arc_asked (of p s y b) f = arc_asks y f.shaped _ (within p.element b f)

pub spiral_asked : {k : Kind} {n o d h s : ℕ} → Reachable k n o d h s → {l : ℕ} → From k Clothoid n s l → (l ≤ longest_element) × (h < 2 ^ 44) × (1 ≤ d) × (d < 2 ^ 44) × (l * l ≤ d)
spiral_asked (of p s y b) f = spiral_asks y f.shaped _ (within p.element b f)

-- where a is the quotient that is computed: what the series asks, and that u and v are the definitions'
pub curve_asked : {k : Kind} {n o d h s : ℕ} → Reachable k n o d h s → (shape : Shape) {l a : ℕ} → From k shape n s l → a ≡ quotient_of shape l h d → Curved l a o
curve_asked (of p s y b) shape f q = curved y shape f.shaped _ (within p.element b f) _ q

pub reached : {k : Kind} {n o d h s : ℕ} (x : Reachable k n o d h s) (shape : Shape) {l a : ℕ} → From k shape n s l → a ≡ quotient_of shape l h d → (r : Magnitudes) → ((t : ℕ) → t ≤ 1 → lowered t ≡ o → measured t r ≡ measured_by shape l (with_sign t (pos a))) → measured (sign_of (element_reached x).radius) r ≡ measured_at (element_reached x) (length_at (element_reached x) s)
unfolding element_reached
reached (of p s y b) shape f q r m = measured_is y shape f.shaped _ (within p.element b f) _ q r m ∙ ap (measured_at p.element) (at p.element f)

-- on a line nothing is divided
pub line_measured : (l t : ℕ) → measured t (record { angle = 0; along = 100 * l; aside = 0 }) ≡ measured_by Straight l (with_sign t (pos 0))
unfolding measured_by local_of
line_measured l t = ap (λ z. record { angle = with_sign t (pos 0); along = pos (100 * l); aside = z }) (sign_zero t)
