-- The prepared axes turn the magnitudes of u and v as the direction at the anchor turns u and v themselves.
use mathlib.Core.Bool.{Bool, true, false, cond}
use mathlib.Core.Path.{◌≡◌, refl, sym, ◌∙◌, ap, ap₂, subst}
use Prim.Native.Nat.{ℕ, ◌^◌, ◌≤◌}
use native.Mathlib.Omega.{arith}
use lib.IntN.{ℤ, pos, neg_ℤ, nat_abs, ◌+ℤ◌, ◌*ℤ◌, +ℤ_idl}
use mir.Facts.{to_z-of_z}
use mir.Syntax.{w64}
use mir.Val.{SFits}
use Rattle.integers.specs.Signs.{with_sign, sign_of}
use Rattle.integers.proofs.Ring.{neg-*ℤ}
use Rattle.integers.proofs.Abs.{nat_abs_neg}
use Rattle.integers.proofs.Signed.{nat_abs_sign, *ℤ_sign, sign-*ℤ, sign_move, sign_small, magnitude_at_most}
use Rattle.integers.proofs.Held.{held, held_small, held_as}
use Rattle.model.proofs.Accepted.{numbers}
use Rattle.model.specs.declared.Shape.{Shape}
use Rattle.model.specs.declared.Shape.TheVariants.{Straight, Circular, Clothoid}
use Rattle.model.specs.declared.Element.{Element}
use Rattle.model.specs.Kinds.{shape_of, anchored_far}
use Rattle.model.specs.Rounding.{ONE, near}
use Rattle.model.specs.Acceptance.{frame}
use Rattle.model.specs.Series.{Local, whole_length, turn_of, angle_of, direction_of, facing, length_at, turn_at, angle_at, unsigned_at, local_at, direction_at, turned, moved_by, position_on, tangent_on}
use Rattle.rounding.specs.Rounded.{lowered}
use Rattle.elements.specs.declared.Prepared.{Prepared}
use Rattle.elements.specs.declared.series.Magnitudes.{Magnitudes}
use Rattle.elements.specs.declared.series.Components.{Components}
use Rattle.elements.specs.Prepared.{prepared_of, Ready}
use Rattle.elements.specs.Reached.{Turnable, Near, with_aside, Measured, measured, measured_by, measured_at, Reachable, of, element_reached, point_of, heading_of}
use Rattle.elements.proofs.Extent.{unit_within, unit_within', direction_along_within, direction_aside_within, facing_within, extent}
use Rattle.elements.proofs.Ends.{no_angle, direction_0}
use Rattle.elements.proofs.Preparing.{off_is}

-- ---- a coordinate through 64 bits

module _ {x a : ℤ} {u : ℕ} {b : ℤ} {v : ℕ} (t : Turnable x a u b v) where
  held_x : held x ≡ x
  held_x = held_small x (omega (arith, t.anchor))

  held_a : held a ≡ a
  held_a = held_small a (omega (arith, t.first))

  -- where the second component comes as z
  module _ {z : ℤ} (i : z ≡ b) where
    held_b : held z ≡ b
    held_b = held_as i (omega (arith, t.second))

    pub turnable_held : Turnable (held x) (held a) u (held z) v
    turnable_held =
        record {
          anchor = subst (λ (y : ℤ). nat_abs y ≤ frame) (sym held_x) t.anchor;
          first = subst (λ (y : ℤ). nat_abs y ≤ ONE) (sym held_a) t.first;
          second = subst (λ (y : ℤ). nat_abs y ≤ ONE) (sym held_b) t.second;
          along = t.along;
          aside = t.aside;
        }

    pub coordinate_held : {r : ℤ} → SFits w64 r → r ≡ held x +ℤ near (held a *ℤ pos u +ℤ held z *ℤ pos v) ONE → held r ≡ x +ℤ near (a *ℤ pos u +ℤ b *ℤ pos v) ONE
    coordinate_held f e =
        to_z-of_z f ∙ e ∙ ap₂ (λ (y z : ℤ). y +ℤ near z ONE) held_x (ap₂ (λ (y z : ℤ). y *ℤ pos u +ℤ z *ℤ pos v) held_a held_b)

-- ---- the axes

-- negating where the anchor is the far end, as a sign
facing_sign : (far : Bool) (z : ℤ) → facing far z ≡ with_sign (cond far 1 0) z
unfolding facing with_sign
facing_sign false z = refl
facing_sign true z = refl

module _ {p : Prepared} (y : Ready p) where
  abbrev e : Element
  e = p.element

  abbrev far : Bool
  far = anchored_far e.kind

  abbrev back : ℕ
  back = cond far 1 0

  abbrev sign : ℕ
  sign = sign_of e.radius

  ux_is : p.ux ≡ with_sign back e.c
  unfolding prepared_of
  ux_is = ap (λ (x : Prepared). x.ux) y.prepared ∙ facing_sign far e.c

  uy_is : p.uy ≡ with_sign back e.s
  unfolding prepared_of
  uy_is = ap (λ (x : Prepared). x.uy) y.prepared ∙ facing_sign far e.s

  vx_is : p.vx ≡ with_sign sign (neg_ℤ e.s)
  unfolding prepared_of
  vx_is = ap (λ (x : Prepared). x.vx) y.prepared

  vy_is : p.vy ≡ with_sign sign e.c
  unfolding prepared_of
  vy_is = ap (λ (x : Prepared). x.vy) y.prepared

  -- an axis with a sign, at a magnitude: the axis without it, at the signed number
  axis : (n : ℕ) (c : ℤ) (u : ℕ) {z : ℤ} → z ≡ with_sign n c → z *ℤ pos u ≡ c *ℤ with_sign n (pos u)
  axis n c u i = ap (λ (z : ℤ). z *ℤ pos u) i ∙ sign_move n c (pos u)

  -- ---- their size

  axis_within : (n : ℕ) (c : ℤ) {z : ℤ} → z ≡ with_sign n c → nat_abs c ≤ ONE → nat_abs z ≤ ONE
  axis_within n c i l = omega (arith, ap nat_abs i, nat_abs_sign n c, l)

  c_within : nat_abs e.c ≤ ONE
  c_within = unit_within e.c e.s (numbers y.accepted).unit

  s_within : nat_abs e.s ≤ ONE
  s_within = unit_within' e.c e.s (numbers y.accepted).unit

  ux_within : nat_abs p.ux ≤ ONE
  ux_within = axis_within back e.c ux_is c_within

  uy_within : nat_abs p.uy ≤ ONE
  uy_within = axis_within back e.s uy_is s_within

  pub vx_within : nat_abs p.vx ≤ ONE
  vx_within = axis_within sign (neg_ℤ e.s) vx_is (omega (arith, nat_abs_neg e.s, s_within))

  pub vy_within : nat_abs p.vy ≤ ONE
  vy_within = axis_within sign e.c vy_is c_within

  -- ---- the position

  -- u along its axis, at its magnitude
  axis_u : (c z : ℤ) (u : ℕ) → z ≡ with_sign back c → z *ℤ pos u ≡ c *ℤ facing far (pos u)
  axis_u c z u i = axis back c u i ∙ ap (λ (x : ℤ). c *ℤ x) (sym (facing_sign far (pos u)))

  pub point_x : (r : Magnitudes) → e.x +ℤ near (p.ux *ℤ pos r.along +ℤ p.vx *ℤ pos r.aside) ONE ≡ (point_of e r).x
  unfolding point_of moved_by turned
  point_x r =
      ap (λ (z : ℤ). e.x +ℤ near z ONE)
      (ap₂ ◌+ℤ◌ (axis_u e.c p.ux r.along ux_is) (axis sign (neg_ℤ e.s) r.aside vx_is ∙ neg-*ℤ e.s (with_sign sign (pos r.aside))))

  pub point_y : (r : Magnitudes) → e.y +ℤ near (p.uy *ℤ pos r.along +ℤ p.vy *ℤ pos r.aside) ONE ≡ (point_of e r).y
  unfolding point_of moved_by turned
  point_y r = ap (λ (z : ℤ). e.y +ℤ near z ONE) (ap₂ ◌+ℤ◌ (axis_u e.s p.uy r.along uy_is) (axis sign e.c r.aside vy_is))

  module _ {r : Magnitudes} (n : Near r) where
    pub point_turnable_x : Turnable e.x p.ux r.along p.vx r.aside
    point_turnable_x = record { anchor = (numbers y.accepted).anchor_x; first = ux_within; second = vx_within; along = n.along; aside = n.aside }

    pub point_turnable_y : Turnable e.y p.uy r.along p.vy r.aside
    point_turnable_y = record { anchor = (numbers y.accepted).anchor_y; first = uy_within; second = vy_within; along = n.along; aside = n.aside }

  -- ---- the direction

  module _ (angle : ℕ) (d : Components) (h : angle ≤ 2 ^ 29) (f : (s : ℕ) → s ≤ 1 → lowered s ≡ p.off → with_aside s d ≡ direction_of Circular (with_sign s (pos angle))) where
    abbrev turn : ℤ
    turn = with_sign sign (pos angle)

    direction : with_aside sign d ≡ direction_of Circular turn
    direction = f sign (sign_small e.radius) (sym (off_is y))

    cosine_is : pos d.along ≡ (direction_of Circular turn).along
    cosine_is = ap (λ (w : Local). w.along) direction

    sine_is : with_sign sign (pos d.aside) ≡ (direction_of Circular turn).aside
    sine_is = ap (λ (w : Local). w.aside) direction

    turn_within : nat_abs turn ≤ 2 ^ 29
    turn_within = omega (arith, nat_abs_sign sign (pos angle), h)

    -- the second axis of the direction, at the magnitude of the sine
    axis_sine : (c v : ℤ) → v ≡ with_sign sign c → facing far v *ℤ pos d.aside ≡ c *ℤ facing far (direction_of Circular turn).aside
    axis_sine c v i =
        ap (λ (z : ℤ). z *ℤ pos d.aside) (facing_sign far v)
        ∙ sign-*ℤ back v (pos d.aside)
        ∙ ap (with_sign back) (axis sign c d.aside i ∙ ap (λ (z : ℤ). c *ℤ z) sine_is)
        ∙ sym (*ℤ_sign back c (direction_of Circular turn).aside)
        ∙ ap (λ (z : ℤ). c *ℤ z) (sym (facing_sign far (direction_of Circular turn).aside))

    pub heading_x : pos 0 +ℤ near (e.c *ℤ pos d.along +ℤ facing far p.vx *ℤ pos d.aside) ONE ≡ (heading_of e angle).x
    unfolding heading_of turned
    heading_x =
        +ℤ_idl _
        ∙ ap (λ (z : ℤ). near z ONE)
        (ap₂ ◌+ℤ◌ (ap (λ (z : ℤ). e.c *ℤ z) cosine_is) (axis_sine (neg_ℤ e.s) p.vx vx_is ∙ neg-*ℤ e.s (facing far (direction_of Circular turn).aside)))

    pub heading_y : pos 0 +ℤ near (e.s *ℤ pos d.along +ℤ facing far p.vy *ℤ pos d.aside) ONE ≡ (heading_of e angle).y
    unfolding heading_of turned
    heading_y = +ℤ_idl _ ∙ ap (λ (z : ℤ). near z ONE) (ap₂ ◌+ℤ◌ (ap (λ (z : ℤ). e.s *ℤ z) cosine_is) (axis_sine e.c p.vy vy_is))

    cosine_small : d.along ≤ ONE
    unfolding with_sign
    cosine_small = magnitude_at_most 0 d.along cosine_is (direction_along_within turn turn_within Circular)

    sine_small : d.aside ≤ ONE
    sine_small = omega (arith, magnitude_at_most sign d.aside sine_is (direction_aside_within turn turn_within Circular))

    pub heading_turnable_x : Turnable (pos 0) e.c d.along (facing far p.vx) d.aside
    heading_turnable_x = record { anchor = omega arith; first = c_within; second = facing_within far p.vx vx_within; along = cosine_small; aside = sine_small }

    pub heading_turnable_y : Turnable (pos 0) e.s d.along (facing far p.vy) d.aside
    heading_turnable_y = record { anchor = omega arith; first = s_within; second = facing_within far p.vy vy_within; along = cosine_small; aside = sine_small }

-- ---- at a station

-- a line's direction is that of the angle 0
direction_is : (k : Shape) (radius : ℤ) (whole l : ℕ) → let t = angle_of (turn_of k radius whole l) in direction_of Circular t ≡ direction_of k t
unfolding direction_of turn_of
direction_is Straight radius whole l = ap (direction_of Circular) (no_angle {q = 1} (omega arith)) ∙ direction_0 Circular
direction_is Circular radius whole l = refl
direction_is Clothoid radius whole l = refl

-- what is reached at a station of an element that is prepared
module _ {p : Prepared} {s : ℕ} (r : Magnitudes) (asked : Ready p × (s ≤ p.element.length)) (told : (x : Reachable p.element.kind p.element.length p.off p.divisor p.half s) → measured (sign_of (element_reached x).radius) r ≡ measured_at (element_reached x) (length_at (element_reached x) s)) where
  is_measured : measured (sign_of p.element.radius) r ≡ measured_at p.element (length_at p.element s)
  unfolding element_reached
  is_measured = told (of p s asked.0 asked.1)

  angle_is : with_sign (sign_of p.element.radius) (pos r.angle) ≡ angle_at p.element s
  unfolding measured_at measured_by angle_at turn_at
  angle_is = ap (λ (m : Measured). m.angle) is_measured

  along_is : pos r.along ≡ (unsigned_at p.element s).along
  unfolding measured_at measured_by unsigned_at angle_at turn_at
  along_is = ap (λ (m : Measured). m.along) is_measured

  aside_is : with_sign (sign_of p.element.radius) (pos r.aside) ≡ (unsigned_at p.element s).aside
  unfolding measured_at measured_by unsigned_at angle_at turn_at
  aside_is = ap (λ (m : Measured). m.aside) is_measured

  pub point_is : point_of p.element r ≡ position_on p.element s
  unfolding point_of position_on local_at
  point_is =
      let e = p.element in
      ap₂ (λ (u v : ℤ). moved_by e.x e.y (turned e.c e.s (record { along = facing (anchored_far e.kind) u; aside = v }))) along_is aside_is

  pub heading_is : heading_of p.element r.angle ≡ tangent_on p.element s
  unfolding heading_of tangent_on direction_at angle_at turn_at
  heading_is =
      let e = p.element in
      ap (λ (w : Local). turned e.c e.s (record { along = w.along; aside = facing (anchored_far e.kind) w.aside }))
      (ap (direction_of Circular) angle_is ∙ direction_is (shape_of e.kind) e.radius (whole_length e) (length_at e s))

  -- and what the point and the direction ask
  pub point_asks : Ready p × Near r
  unfolding with_sign local_at
  point_asks =
      let b = extent asked.0.accepted asked.1 in (
        asked.0,
        record {
          along = omega (arith, magnitude_at_most 0 r.along along_is b.unsigned);
          aside = omega (arith, magnitude_at_most (sign_of p.element.radius) r.aside aside_is b.aside);
        },
      )

  pub heading_asks : Ready p × (r.angle ≤ 2 ^ 29)
  heading_asks = (asked.0, magnitude_at_most (sign_of p.element.radius) r.angle angle_is (extent asked.0.accepted asked.1).angle)
