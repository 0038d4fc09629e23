-- How large the numbers of an element are at a station. Rounding keeps a bound that is a multiple of the divisor, and the factors and the angle are
-- in the ranges of `Factor` and `Angle`.
use mathlib.Core.Bool.{Bool, true, false}
use mathlib.Core.Path.{subst}
use Prim.Native.Nat.{ℕ, ◌+◌, ◌*◌, ◌^◌, ◌<◌, ◌≤◌}
use native.Mathlib.Omega.{arith}
use native.Mathlib.Nat.{mul-le-mul, mul-le-mul_left, mul-le-mul_right, le_of_eq, le_trans, lt_of_le_of_lt}
use lib.IntN.{ℤ, pos, nat_abs, ◌+ℤ◌, ◌-ℤ◌, ◌*ℤ◌, +ℤ_comm}
use lib.Signed.{◌<ℤ◌}
use Rattle.integers.proofs.Order.{order, sum, difference, parts, 0≤-square}
use Rattle.integers.proofs.Abs.{nat_abs_neg, nat_abs-+, nat_abs--, nat_abs-*, square→nat_abs-<ℕ}
use Rattle.integers.proofs.Plane.{squared-≤}
use Rattle.model.specs.declared.Shape.{Shape}
use Rattle.model.specs.declared.Shape.TheVariants.{Straight, Circular, Clothoid}
use Rattle.model.specs.declared.Element.{Element}
use Rattle.model.specs.declared.Point.{Point}
use Rattle.model.specs.Rounding.{ONE, near}
use Rattle.model.specs.Kinds.{shape_of, anchored_far}
use Rattle.model.specs.Series.{Factor, Series, arc_series, spiral_series, cosine_factor, sine_factor, F, square_of, series_along, series_aside, cosine, sine, local_of, direction_of, facing, length_at, angle_at, unsigned_at, local_at, direction_at, turned, moved_by, position_on, tangent_on}
use Rattle.model.specs.Acceptance.{frame}
use Rattle.model.specs.Stations.{distance_sq}
use Rattle.model.specs.Accepted.{Accepted}
use Rattle.model.proofs.Accepted.{numbers}
use Rattle.rounding.proofs.Sizes.{near_within, near_turn}
use Rattle.elements.specs.Extent.{widest_along, widest_aside, widest_position, Extent}
use Rattle.elements.proofs.Angle.{square_of_square, length_at_within, angle_at_within}
use Rattle.elements.proofs.Factor.{Proper, F_within}

-- ---- the series

record ProperSeries (k : Series) : Type 0 where
  along : Proper k.along_factor
  aside : Proper k.aside_factor
  divisor : 2 ≤ k.aside_divisor

arc_proper : ProperSeries arc_series
arc_proper = record { along = omega arith; aside = omega arith; divisor = omega arith }

spiral_proper : ProperSeries spiral_series
spiral_proper = record { along = omega arith; aside = omega arith; divisor = omega arith }

module _ (t : ℤ) (h : nat_abs t ≤ 2 ^ 29) where
  factor_within : {f : Factor} → Proper f → nat_abs (F f (square_of t)) ≤ ONE
  factor_within proper = F_within proper (square_of_square t h)

  along_within : {k : Series} → ProperSeries k → (z : ℕ) → nat_abs (series_along k z t) ≤ 100 * z
  unfolding series_along
  along_within {k} s z =
      let f = F k.along_factor (square_of t) in
      near_within {d = ONE} (omega arith) (pos (100 * z) *ℤ f) (omega (arith, nat_abs-* (pos (100 * z)) f, mul-le-mul_left (100 * z) (factor_within s.along)))

  aside_within : {k : Series} → ProperSeries k → (z : ℕ) → nat_abs (series_aside k z t) ≤ 25 * z
  unfolding series_aside
  aside_within {k} s z =
      let f = F k.aside_factor (square_of t) in
      let w = near (pos (100 * z) *ℤ t) ONE in
      let first : nat_abs w ≤ 50 * z = near_within {d = ONE} (omega arith) (pos (100 * z) *ℤ t) (omega (arith, nat_abs-* (pos (100 * z)) t, mul-le-mul_left (100 * z) h)) in
      let both : nat_abs w * nat_abs f ≤ 50 * z * ONE = mul-le-mul first (factor_within s.aside) in
      let most : 2 * ONE * (25 * z) ≤ k.aside_divisor * ONE * (25 * z) = mul-le-mul_right (25 * z) (omega (arith, s.divisor)) in
      near_within {d = k.aside_divisor * ONE} (omega (arith, s.divisor)) (w *ℤ f) (omega (arith, nat_abs-* w f))

  cosine_within : nat_abs (cosine t) ≤ ONE
  unfolding cosine
  cosine_within = factor_within {f = cosine_factor} (omega arith)

  sine_within : nat_abs (sine t) ≤ 2 ^ 29
  unfolding sine
  sine_within =
      let f = F sine_factor (square_of t) in
      near_within {d = ONE} (omega arith) (t *ℤ f) (omega (arith, nat_abs-* t f, mul-le-mul h (factor_within {f = sine_factor} (omega arith))))

-- ---- the shapes

module _ (t : ℤ) (h : nat_abs t ≤ 2 ^ 29) where
  local_along_within : (k : Shape) (l : ℕ) → nat_abs (local_of k l t).along ≤ 100 * l
  unfolding local_of
  local_along_within Straight l = omega arith
  local_along_within Circular l = along_within t h arc_proper l
  local_along_within Clothoid l = along_within t h spiral_proper l

  local_aside_within : (k : Shape) (l : ℕ) → nat_abs (local_of k l t).aside ≤ 25 * l
  unfolding local_of
  local_aside_within Straight l = omega arith
  local_aside_within Circular l = aside_within t h arc_proper l
  local_aside_within Clothoid l = aside_within t h spiral_proper l

  pub direction_along_within : (k : Shape) → nat_abs (direction_of k t).along ≤ ONE
  unfolding direction_of
  direction_along_within Straight = omega arith
  direction_along_within Circular = cosine_within t h
  direction_along_within Clothoid = cosine_within t h

  pub direction_aside_within : (k : Shape) → nat_abs (direction_of k t).aside ≤ 2 ^ 29
  unfolding direction_of
  direction_aside_within Straight = omega arith
  direction_aside_within Circular = sine_within t h
  direction_aside_within Clothoid = sine_within t h

pub facing_within : (far : Bool) (z : ℤ) {k : ℕ} → nat_abs z ≤ k → nat_abs (facing far z) ≤ k
unfolding facing
facing_within false z h = h
facing_within true z h = le_trans (le_of_eq (nat_abs_neg z)) h

-- ---- the direction at the anchor

-- c² ≤ c² + s² < (ONE + 1)²
pub unit_within : (a b : ℤ) → nat_abs (a *ℤ a +ℤ b *ℤ b -ℤ pos (2 ^ 60)) ≤ 2 ^ 31 → nat_abs a ≤ ONE
unit_within a b h =
    let q = a *ℤ a +ℤ b *ℤ b in
    let l : (a *ℤ a) <ℤ pos ((ONE + 1) * (ONE + 1)) = omega (order, h, 0≤-square b, sum (a *ℤ a) (b *ℤ b), difference q (pos (2 ^ 60)), parts (q -ℤ pos (2 ^ 60))) in
    omega (arith, square→nat_abs-<ℕ a (ONE + 1) l)

pub unit_within' : (a b : ℤ) → nat_abs (a *ℤ a +ℤ b *ℤ b -ℤ pos (2 ^ 60)) ≤ 2 ^ 31 → nat_abs b ≤ ONE
unit_within' a b h = unit_within b a (subst (λ (z : ℤ). nat_abs (z -ℤ pos (2 ^ 60)) ≤ 2 ^ 31) (+ℤ_comm (a *ℤ a) (b *ℤ b)) h)

-- ---- in the plane

distance_small : (p q : Point) → nat_abs p.x ≤ frame → nat_abs p.y ≤ frame → nat_abs q.x ≤ widest_position → nat_abs q.y ≤ widest_position → distance_sq p q < 2 ^ 62
unfolding distance_sq
distance_small p q px py qx qy =
    let x : nat_abs (p.x -ℤ q.x) ≤ frame + widest_position = omega (arith, nat_abs-- p.x q.x) in
    let y : nat_abs (p.y -ℤ q.y) ≤ frame + widest_position = omega (arith, nat_abs-- p.y q.y) in
    omega (arith, squared-≤ (p.x -ℤ q.x) (p.y -ℤ q.y) x y)

-- ---- the record

pub extent : {e : Element} → Accepted e → {s : ℕ} → s ≤ e.length → Extent e s
unfolding local_at unsigned_at direction_at position_on tangent_on turned moved_by
extent {e} a {s} h =
    let t = angle_at_within e a s h in
    let l = length_at_within e a s h in
    let c = unit_within e.c e.s (numbers a).unit in
    let d = unit_within' e.c e.s (numbers a).unit in
    let w = local_at e s in
    let g = direction_at e s in
    let far = anchored_far e.kind in
    let shape = shape_of e.kind in
    let u₀ : nat_abs (unsigned_at e s).along ≤ widest_along = le_trans (local_along_within (angle_at e s) t shape (length_at e s)) (omega arith) in
    let u = facing_within far (unsigned_at e s).along u₀ in
    let v : nat_abs w.aside ≤ widest_aside = le_trans (local_aside_within (angle_at e s) t shape (length_at e s)) (omega arith) in
    let m = direction_along_within (angle_at e s) t shape in
    let n = facing_within far (direction_of shape (angle_at e s)).aside (direction_aside_within (angle_at e s) t shape) in
    let moved : (x y : ℤ) → nat_abs x ≤ frame → nat_abs y ≤ widest_along + widest_aside → nat_abs (x +ℤ y) ≤ widest_position = λ x y hx hy. omega (arith, nat_abs-+ x y) in
    let px = moved e.x (near (e.c *ℤ w.along -ℤ e.s *ℤ w.aside) ONE) (numbers a).anchor_x (near_turn 1 e.c w.along e.s w.aside c d u v).0 in
    let py = moved e.y (near (e.s *ℤ w.along +ℤ e.c *ℤ w.aside) ONE) (numbers a).anchor_y (near_turn 1 e.s w.along e.c w.aside d c u v).1 in
    record {
      angle = t;
      unsigned = u₀;
      along = u;
      aside = v;
      cosine = m;
      sine = n;
      c = c;
      s = d;
      x = px;
      y = py;
      tx = lt_of_le_of_lt (near_turn 1 e.c g.along e.s g.aside c d m n).0 (omega arith);
      ty = lt_of_le_of_lt (near_turn 1 e.s g.along e.c g.aside d c m n).1 (omega arith);
      distance = λ p hx hy. distance_small p (position_on e s) hx hy px py;
    }
