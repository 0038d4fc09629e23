-- docs/RULES.md, chapter 3; document 01, "Position on an element".
use Rattle.std.specs.Prelude.{ℕ, ◌-◌, ◌*◌, Bool, true, false, ℤ, pos, negsuc, neg_ℤ, nat_abs, ◌+ℤ◌, ◌-ℤ◌, ◌*ℤ◌}
use Rattle.model.specs.declared.Shape.{Shape}
use Rattle.model.specs.declared.Shape.TheVariants.{Straight, Circular, Clothoid}
use Rattle.model.specs.declared.Element.{Element}
use Rattle.model.specs.declared.Point.{Point}
use Rattle.model.specs.Rounding.{ONE, near}
use Rattle.model.specs.Kinds.{shape_of, anchored_far}

-- ---- the numbers of the series

-- the numbers of F(a; b, d)
pub record Factor : Type 0 where
  pub a : ℕ
  pub b : ℕ
  pub d : ℕ

abbrev pub factor : ℕ → ℕ → ℕ → Factor
factor a b d = record { a = a; b = b; d = d }

-- the factors of u and of v, and the divisor of v
pub record Series : Type 0 where
  pub along_factor : Factor
  pub aside_factor : Factor
  pub aside_divisor : ℕ

-- "arc: .. F(6; 1, 20) .. F(12; 1, 30), 2·ONE"
abbrev pub arc_series : Series
arc_series = record { along_factor = factor 6 1 20; aside_factor = factor 12 1 30; aside_divisor = 2 }

-- "spiral: .. F(10; 5, 108) .. F(14; 7, 220), 3·ONE"
abbrev pub spiral_series : Series
spiral_series = record { along_factor = factor 10 5 108; aside_factor = factor 14 7 220; aside_divisor = 3 }

-- "direction: (F(2; 1, 12), near(t·F(6; 1, 20), ONE))"
abbrev pub cosine_factor : Factor
cosine_factor = factor 2 1 12

abbrev pub sine_factor : Factor
sine_factor = factor 6 1 20

-- ---- the series

-- "F(a; b, d) = ONE − near(p·(ONE − near(b·p, d)), a·ONE)"
unfoldable pub F : Factor → ℤ → ℤ
unfolding near
F f p = pos ONE -ℤ near (p *ℤ (pos ONE -ℤ near (pos f.b *ℤ p) f.d)) (f.a * ONE)

-- "p = near(t², ONE)"
unfoldable pub square_of : ℤ → ℤ
unfolding near
square_of t = near (t *ℤ t) ONE

-- "u = near(100s·F(..), ONE)", with the length z in mm
unfoldable pub series_along : Series → ℕ → ℤ → ℤ
unfolding near F square_of
series_along k z t = near (pos (100 * z) *ℤ F k.along_factor (square_of t)) ONE

-- "w = near(100s·t, ONE); v = near(w·F(..), 2·ONE)"
unfoldable pub series_aside : Series → ℕ → ℤ → ℤ
unfolding near F square_of
series_aside k z t = near (near (pos (100 * z) *ℤ t) ONE *ℤ F k.aside_factor (square_of t)) (k.aside_divisor * ONE)

-- "direction: (F(2; 1, 12), near(t·F(6; 1, 20), ONE))": its first component, and its second
unfoldable pub cosine : ℤ → ℤ
unfolding F square_of
cosine t = F cosine_factor (square_of t)

unfoldable pub sine : ℤ → ℤ
unfolding near F square_of
sine t = near (t *ℤ F sine_factor (square_of t)) ONE

-- ---- an element in its own frame, whose first axis is the forward direction at the anchor

-- (u, v), or a direction, in the element's own frame
pub record Local : Type 0 where
  pub along : ℤ
  pub aside : ℤ

-- l at s mm from the start of an element of this length: "Let l = s, but l = L − s on an exit spiral.", which is anchored at its far end.
unfoldable pub from_anchor : Bool → ℕ → ℕ → ℕ
from_anchor false length s = s
from_anchor true length s = length - s

-- W, the length over which a clothoid comes from its straight end to the radius R: the "L" of "2RL". On every other shape it is the element's own too.
abbrev pub whole_length : Element → ℕ
whole_length e = e.length

-- the fraction numerator / denominator; that of an accepted element's turn has a denominator above 0
pub record Fraction : Type 0 where
  pub numerator : ℤ
  pub denominator : ℕ

abbrev pub fraction : ℤ → ℕ → Fraction
fraction n d = record { numerator = n; denominator = d }

-- n with the sign of the radius: "with the sign moved to the numerator"
unfoldable pub signed_by : ℤ → ℕ → ℤ
signed_by (pos r) n = pos n
signed_by (negsuc r) n = neg_ℤ (pos n)

-- φ or τ, by which a curve has turned l mm from its anchor, of the radius and W: "arc, φ = s/R", "spiral, τ = l²/(2RL)"; a line does not turn.
unfoldable pub turn_of : Shape → ℤ → ℕ → ℕ → Fraction
unfolding signed_by
turn_of Straight radius whole l = fraction (pos 0) 1
turn_of Circular radius whole l = fraction (signed_by radius l) (nat_abs radius)
turn_of Clothoid radius whole l = fraction (signed_by radius (l * l)) (2 * nat_abs radius * whole)

-- t, of a turn φ: "t = near(ONE·s, R) on an arc and near(ONE·l², 2RL) on a spiral"
unfoldable pub angle_of : Fraction → ℤ
unfolding near
angle_of φ = near (pos ONE *ℤ φ.numerator) φ.denominator

-- "line: u = 100s, v = 0"; "arc: u = .."; "spiral: U = ..": u and v, but U and V of a clothoid
unfoldable pub local_of : Shape → ℕ → ℤ → Local
unfolding series_along series_aside
local_of Straight l t = record { along = pos (100 * l); aside = pos 0 }
local_of Circular l t = record { along = series_along arc_series l t; aside = series_aside arc_series l t }
local_of Clothoid l t = record { along = series_along spiral_series l t; aside = series_aside spiral_series l t }

-- "line: .. direction (ONE, 0)"; "direction: (F(2; 1, 12), near(t·F(6; 1, 20), ONE))"
unfoldable pub direction_of : Shape → ℤ → Local
unfolding cosine sine
direction_of Straight t = record { along = pos ONE; aside = pos 0 }
direction_of Circular t = record { along = cosine t; aside = sine t }
direction_of Clothoid t = record { along = cosine t; aside = sine t }

-- negated on an element that is anchored at its far end
unfoldable pub facing : Bool → ℤ → ℤ
facing false z = z
facing true z = neg_ℤ z

-- l, the turn and t at s, where "s is the mm from the element's start, 0 to L."
unfoldable pub length_at : Element → ℕ → ℕ
unfolding from_anchor anchored_far
length_at e s = from_anchor (anchored_far e.kind) e.length s

unfoldable pub turn_at : Element → ℕ → Fraction
unfolding turn_of shape_of length_at
turn_at e s = turn_of (shape_of e.kind) e.radius (whole_length e) (length_at e s)

unfoldable pub angle_at : Element → ℕ → ℤ
unfolding angle_of turn_at
angle_at e s = angle_of (turn_at e s)

-- u and v at s, but U and V on a spiral
unfoldable pub unsigned_at : Element → ℕ → Local
unfolding local_of shape_of length_at angle_at
unsigned_at e s = local_of (shape_of e.kind) (length_at e s) (angle_at e s)

-- "Entry: u = U, v = V. Exit: u = −U, v = V."
unfoldable pub local_at : Element → ℕ → Local
unfolding facing anchored_far unsigned_at
local_at e s = let w = unsigned_at e s in record { along = facing (anchored_far e.kind) w.along; aside = w.aside }

-- "direction: .., the second negated on an exit spiral"
unfoldable pub direction_at : Element → ℕ → Local
unfolding facing anchored_far direction_of shape_of angle_at
direction_at e s = let w = direction_of (shape_of e.kind) (angle_at e s) in record { along = w.along; aside = facing (anchored_far e.kind) w.aside }

-- ---- in the plane

-- "X = x + near(c·u − s·v, ONE), Y = y + near(s·u + c·v, ONE), here with the record's s": the part that turns
unfoldable pub turned : ℤ → ℤ → Local → Point
unfolding near
turned c s w = record { x = near (c *ℤ w.along -ℤ s *ℤ w.aside) ONE; y = near (s *ℤ w.along +ℤ c *ℤ w.aside) ONE }

-- the part that adds x and y
unfoldable pub moved_by : ℤ → ℤ → Point → Point
moved_by x y p = record { x = x +ℤ p.x; y = y +ℤ p.y }

-- (X, Y), the position at s mm from the element's start
unfoldable pub position_on : Element → ℕ → Point
unfolding moved_by turned local_at
position_on e s = moved_by e.x e.y (turned e.c e.s (local_at e s))

-- "the direction turns the same way, without x and y, to (Tx, Ty)"
unfoldable pub tangent_on : Element → ℕ → Point
unfolding turned direction_at
tangent_on e s = turned e.c e.s (direction_at e s)
