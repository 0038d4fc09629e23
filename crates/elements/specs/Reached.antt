-- What is computed for a station, as magnitudes: the angle t, u and v. The sign of t and v is that of the radius; u is negative where the anchor is the far end.
use Rattle.std.specs.Prelude.{ℕ, ◌+◌, ◌*◌, ◌/◌, ◌%◌, ◌^◌, ◌<◌, ◌≤◌, ◌≡◌, ℤ, pos, nat_abs}
use Rattle.integers.specs.Signs.{with_sign, sign_of}
use Rattle.model.specs.declared.Shape.{Shape}
use Rattle.model.specs.declared.Kind.{Kind}
use Rattle.model.specs.declared.Shape.TheVariants.{Straight, Circular, Clothoid}
use Rattle.model.specs.declared.Element.{Element}
use Rattle.model.specs.declared.Point.{Point}
use Rattle.model.specs.Kinds.{shape_of, anchored_far}
use Rattle.model.specs.Acceptance.{longest_element, frame}
use Rattle.model.specs.Rounding.{ONE}
use Rattle.model.specs.Series as model
use Rattle.model.specs.Series.{Local, Series, whole_length, turn_of, angle_of, local_of, direction_of, facing, series_along, series_aside, turned, moved_by}
use Rattle.elements.specs.declared.Placement.{Placement}
use Rattle.elements.specs.declared.series.Components.{Components}
use Rattle.elements.specs.declared.series.Factor.{Factor}
use Rattle.elements.specs.declared.series.CurveNumbers.{CurveNumbers}
use Rattle.elements.specs.declared.series.Magnitudes.{Magnitudes}
use Rattle.elements.specs.declared.Prepared.{Prepared}
use Rattle.elements.specs.Prepared.{Ready}

-- ---- the series

-- the numbers of a factor, and of a series, as the code holds them
abbrev pub factor_of : Factor → model.Factor
factor_of f = model.factor f.a f.b f.d

abbrev pub series_of : CurveNumbers → Series
series_of k = record { along_factor = factor_of k.along; aside_factor = factor_of k.aside; aside_divisor = k.divisor }

-- what F(a; b, d) asks of the square and of its numbers
pub record Factorable (square : ℕ) (f : Factor) : Type 0 where
  pub small : square ≤ ONE
  pub outer : (1 ≤ f.a) × (f.a ≤ 14)
  pub ratio : f.b ≤ f.d
  pub inner : (1 < f.d) × (f.d ≤ 220)
  pub even : f.d % 2 ≡ 0

-- the largest magnitude of t: no element turns by more than a half
abbrev pub widest_angle : ℕ
widest_angle = 2 ^ 29

-- above every divisor of t, the largest of which is 2 · 10,000,000 · 500,000
abbrev pub widest_divisor : ℕ
widest_divisor = 2 ^ 44

-- what the series ask of a length in mm, of an angle and of what is taken off for a half
pub record Curved (length angle off : ℕ) : Type 0 where
  pub longest : length ≤ longest_element
  pub widest : angle ≤ widest_angle
  pub small : off ≤ 1

-- numbers that serve for every square that an angle has, up to 2^28, and for v
pub record Usable (k : CurveNumbers) : Type 0 where
  pub along : Factorable (2 ^ 28) k.along
  pub aside : Factorable (2 ^ 28) k.aside
  pub divisor : (1 ≤ k.divisor) × (k.divisor ≤ 3)

-- the components of a direction from their magnitudes and the sign of the angle
abbrev pub with_aside : ℕ → Components → Local
with_aside sign r = record { along = pos r.along; aside = with_sign sign (pos r.aside) }

-- ---- the angle, u and v, but U and V of a clothoid

pub record Measured : Type 0 where
  pub angle : ℤ
  pub along : ℤ
  pub aside : ℤ

-- from their magnitudes and the sign of the angle
abbrev pub measured : ℕ → Magnitudes → Measured
measured sign r = record { angle = with_sign sign (pos r.angle); along = pos r.along; aside = with_sign sign (pos r.aside) }

-- by a series, at a length in mm and an angle
abbrev pub series_at : Series → ℕ → ℤ → Measured
series_at k length t = record { angle = t; along = series_along k length t; aside = series_aside k length t }

-- by the shape of a curve
unfoldable pub measured_by : Shape → ℕ → ℤ → Measured
unfolding local_of
measured_by k l t = let w = local_of k l t in record { angle = t; along = w.along; aside = w.aside }

-- of an element, at l mm from its anchor
unfoldable pub measured_at : Element → ℕ → Measured
unfolding measured_by shape_of turn_of angle_of
measured_at e l = let k = shape_of e.kind in measured_by k l (angle_of (turn_of k e.radius (whole_length e) l))

-- the magnitude of the angle as it is computed l mm from the anchor, of the prepared half and divisor
unfoldable pub quotient_of : Shape → ℕ → ℕ → ℕ → ℕ
quotient_of Straight l half divisor = 0
quotient_of Circular l half divisor = (2 * (ONE * l) + half) / divisor
quotient_of Clothoid l half divisor = (ONE * (l * l) + half) / divisor

-- what u and v at a station depend on: kind, length, what is taken off, divisor and half of an element that is prepared, and s mm from its start
pub data Reachable : Kind → ℕ → ℕ → ℕ → ℕ → ℕ → Type 0 where
  of : (p : Prepared) (s : ℕ) → Ready p → s ≤ p.element.length → Reachable p.element.kind p.element.length p.off p.divisor p.half s

unfoldable pub element_reached : {kind : Kind} {length off divisor half s : ℕ} → Reachable kind length off divisor half s → Element
element_reached (of p s y h) = p.element

-- ---- in the plane

-- the position from the magnitudes of u and v, and the direction from that of the angle
unfoldable pub point_of : Element → Magnitudes → Point
unfolding moved_by turned facing anchored_far with_sign sign_of
point_of e r =
    moved_by e.x e.y
    (turned e.c e.s
    (record { along = facing (anchored_far e.kind) (pos r.along); aside = with_sign (sign_of e.radius) (pos r.aside) }))

unfoldable pub heading_of : Element → ℕ → Point
unfolding turned direction_of facing anchored_far with_sign sign_of
heading_of e angle =
    let w = direction_of Circular (with_sign (sign_of e.radius) (pos angle)) in
    turned e.c e.s (record { along = w.along; aside = facing (anchored_far e.kind) w.aside })

abbrev pub placement_of : Point → Point → Placement
placement_of p t = record { x = p.x; y = p.y; tx = t.x; ty = t.y }

-- what a point asks of its magnitudes
pub record Near (r : Magnitudes) : Type 0 where
  pub along : r.along ≤ ONE
  pub aside : r.aside ≤ ONE

-- what a coordinate asks of its numbers
pub record Turnable (x a : ℤ) (u : ℕ) (b : ℤ) (v : ℕ) : Type 0 where
  pub anchor : nat_abs x ≤ frame
  pub first : nat_abs a ≤ ONE
  pub second : nat_abs b ≤ ONE
  pub along : u ≤ ONE
  pub aside : v ≤ ONE
