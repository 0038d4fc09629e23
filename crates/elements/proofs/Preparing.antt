-- Preparing changes no number: the prepared divisor and half give the angle of the definitions, and the series at it u and v.
use mathlib.Core.Path.{◌≡◌, refl, sym, ◌∙◌, ap, ap₂, subst}
use Prim.Native.Nat.{ℕ, ◌+◌, ◌-◌, ◌*◌, ◌/◌, ◌^◌, ◌<◌, ◌≤◌}
use native.Mathlib.Omega.{arith}
use native.Mathlib.Nat.{mul_assoc, mul-le-mul}
use lib.IntN.{ℤ, pos, negsuc, nat_abs, ◌*ℤ◌}
use Rattle.integers.specs.Signs.{with_sign, sign_of}
use Rattle.integers.proofs.Signed.{*ℤ_sign, sign_small, sign_zero, magnitude_at_most}
use Rattle.model.specs.declared.Shape.{Shape}
use Rattle.model.specs.declared.Shape.TheVariants.{Straight, Circular, Clothoid}
use Rattle.model.specs.declared.Element.{Element}
use Rattle.model.specs.Kinds.{shape_of}
use Rattle.model.specs.Acceptance.{longest_element, widest}
use Rattle.model.specs.Rounding.{ONE, near}
use Rattle.model.specs.Series.{whole_length, signed_by, turn_of, angle_of}
use Rattle.model.specs.Accepted.{Accepted}
use Rattle.model.proofs.Accepted.{RadiusFits, numbers}
use Rattle.rounding.specs.Rounded.{lowered}
use Rattle.rounding.proofs.Quotients.{lowered-≤, near_even, near_halves}
use Rattle.elements.specs.declared.Prepared.{Prepared}
use Rattle.elements.specs.declared.series.Magnitudes.{Magnitudes}
use Rattle.elements.specs.Prepared.{divisor_of, prepared_of, Ready}
use Rattle.elements.specs.Reached.{Curved, measured, measured_by, measured_at, quotient_of}
use Rattle.elements.proofs.Angle.{angle_within, turn_of_turn}
use Rattle.elements.proofs.Ends.{no_angle}

pub ready : {e : Element} → Accepted e → Ready (prepared_of e)
unfolding prepared_of
ready a = record { accepted = a; prepared = refl }

-- what is prepared of an element is that element's
pub prepared_element : (e : Element) {p : Prepared} → p ≡ prepared_of e → p.element ≡ e
unfolding prepared_of
prepared_element e q = ap (λ (p : Prepared). p.element) q

-- ---- what a shape says

pub radius_within : (k : Shape) (whole : ℕ) {radius : ℕ} → RadiusFits k whole radius → radius ≤ widest
unfolding RadiusFits
radius_within Straight whole r = omega arith
radius_within Circular whole r = r.1
radius_within Clothoid whole r = r.1

-- what is taken off is taken from half the divisor
pub off_fits : (k : Shape) {off whole radius : ℕ} → RadiusFits k whole radius → off ≤ radius → 1 ≤ whole → off ≤ divisor_of k radius whole / 2
unfolding RadiusFits divisor_of
off_fits Straight r s h = omega arith
off_fits Circular r s h = omega arith
off_fits Clothoid {whole = l} {radius} r s h = omega (arith, mul_assoc 2 radius l, mul-le-mul {n₁ = radius} {m₁ = 1} {n₂ = radius} {m₂ = l} (omega arith) h)

-- ONE times a number with the sign of the radius
scaled : (radius : ℤ) (n : ℕ) → with_sign (sign_of radius) (pos (ONE * n)) ≡ pos ONE *ℤ signed_by radius n
unfolding signed_by with_sign sign_of
scaled (pos r) n = refl
scaled (negsuc r) n = sym (*ℤ_sign 1 (pos ONE) (pos n))

-- ---- an element that is prepared

module _ {p : Prepared} (y : Ready p) where
  abbrev e : Element
  e = p.element

  abbrev radius : ℕ
  radius = nat_abs e.radius

  abbrev whole : ℕ
  whole = whole_length e

  abbrev sign : ℕ
  sign = sign_of e.radius

  pub off_is : p.off ≡ lowered sign
  unfolding prepared_of
  off_is = ap (λ (x : Prepared). x.off) y.prepared

  pub off_small : p.off ≤ 1
  off_small = omega (arith, off_is, lowered-≤ sign, sign_small e.radius)

  half_is : p.half ≡ p.divisor / 2 - p.off
  unfolding prepared_of
  half_is =
      ap (λ (x : Prepared). x.half) y.prepared
      ∙ ap₂ (λ (d n : ℕ). d / 2 - n) (sym (ap (λ (x : Prepared). x.divisor) y.prepared)) (sym off_is)

  -- at l mm from the anchor of an element of shape k
  module _ (k : Shape) (h : shape_of e.kind ≡ k) where
    divisor_is : p.divisor ≡ divisor_of k radius whole
    unfolding prepared_of
    divisor_is = ap (λ (x : Prepared). x.divisor) y.prepared ∙ ap (λ x. divisor_of x radius whole) h

    radius_on : RadiusFits k whole radius
    radius_on = subst (λ x. RadiusFits x whole radius) h (numbers y.accepted).radius

  -- ---- the angle of an arc

  module _ (h : shape_of e.kind ≡ Circular) (l : ℕ) where
    arc_divisor : p.divisor ≡ 2 * radius
    unfolding divisor_of
    arc_divisor = divisor_is Circular h

    arc_radius : (2 * whole ≤ radius) × (radius ≤ widest)
    unfolding RadiusFits
    arc_radius = radius_on Circular h

    arc_half : p.half ≡ radius - p.off
    arc_half = omega (arith, half_is, arc_divisor)

    pub arc_asks : l ≤ whole → (l ≤ longest_element) × (p.half ≤ widest) × (1 ≤ p.divisor)
    arc_asks b = omega (arith, b, (numbers y.accepted).longest, (numbers y.accepted).whole, arc_half, arc_divisor, arc_radius)

    arc_angle : with_sign sign (pos ((2 * (ONE * l) + p.half) / p.divisor)) ≡ angle_of (turn_of Circular e.radius whole l)
    unfolding angle_of turn_of
    arc_angle =
        ap₂ (λ (a d : ℕ). with_sign sign (pos ((2 * (ONE * l) + a) / d))) arc_half arc_divisor
        ∙ near_halves sign (ONE * l) radius (sign_small e.radius) (sym off_is) (omega (arith, (numbers y.accepted).whole, arc_radius))
        ∙ ap (λ (z : ℤ). near z radius) (scaled e.radius l)

  -- ---- the angle of a spiral

  module _ (h : shape_of e.kind ≡ Clothoid) (l : ℕ) where
    spiral_radius : (whole ≤ radius) × (radius ≤ widest)
    unfolding RadiusFits
    spiral_radius = radius_on Clothoid h

    spiral_product : radius * whole ≤ widest * longest_element
    spiral_product = mul-le-mul {n₁ = radius} {m₁ = whole} {n₂ = widest} {m₂ = longest_element} spiral_radius.1 (numbers y.accepted).longest

    spiral_positive : 1 * 1 ≤ radius * whole
    spiral_positive = mul-le-mul {n₁ = 1} {m₁ = 1} {n₂ = radius} {m₂ = whole} (omega (arith, spiral_radius, (numbers y.accepted).whole)) (numbers y.accepted).whole

    spiral_divisor : p.divisor ≡ 2 * radius * whole
    unfolding divisor_of
    spiral_divisor = divisor_is Clothoid h

    twice : p.divisor ≡ 2 * (radius * whole)
    twice = spiral_divisor ∙ mul_assoc 2 radius whole

    pub spiral_asks : l ≤ whole → (l ≤ longest_element) × (p.half < 2 ^ 44) × (1 ≤ p.divisor) × (p.divisor < 2 ^ 44) × (l * l ≤ p.divisor)
    spiral_asks b =
        let square : l * l ≤ radius * whole = mul-le-mul {n₁ = l} {m₁ = l} {n₂ = radius} {m₂ = whole} (omega (arith, spiral_radius)) b in
        omega (arith, b, (numbers y.accepted).longest, half_is, twice, square, spiral_product, spiral_positive)

    spiral_angle : with_sign sign (pos ((ONE * (l * l) + p.half) / p.divisor)) ≡ angle_of (turn_of Clothoid e.radius whole l)
    unfolding angle_of turn_of
    spiral_angle =
        ap (λ (x : ℕ). with_sign sign (pos (x / p.divisor))) (omega (arith, half_is, off_small, twice, spiral_positive))
        ∙ near_even sign (ONE * (l * l)) p.divisor (sign_small e.radius) (sym off_is) (omega (arith, twice, spiral_positive)) (omega (arith, twice))
        ∙ ap₂ (λ (z : ℤ) (x : ℕ). near z x) (scaled e.radius (l * l)) spiral_divisor

  -- ---- the angle, u and v

  -- the quotient that is computed is t
  quotient_is : (k : Shape) → shape_of e.kind ≡ k → (l : ℕ) → with_sign sign (pos (quotient_of k l p.half p.divisor)) ≡ angle_of (turn_of k e.radius whole l)
  unfolding quotient_of turn_of
  quotient_is Straight h l = sign_zero sign ∙ sym (no_angle {q = 1} (omega arith))
  quotient_is Circular h l = arc_angle h l
  quotient_is Clothoid h l = spiral_angle h l

  module _ (k : Shape) (h : shape_of e.kind ≡ k) (l : ℕ) (b : l ≤ whole) (a : ℕ) (q : a ≡ quotient_of k l p.half p.divisor) where
    angle_is : with_sign sign (pos a) ≡ angle_of (turn_of k e.radius whole l)
    angle_is = ap (λ x. with_sign sign (pos x)) q ∙ quotient_is k h l

    -- what the series asks
    pub curved : Curved l a p.off
    curved =
        record {
          longest = omega (arith, b, (numbers y.accepted).longest);
          widest = magnitude_at_most sign a angle_is (angle_within (turn_of_turn k e.radius whole l (numbers y.accepted).whole (radius_on k h) b));
          small = off_small;
        }

    -- and that u and v are the definitions'
    pub measured_is : (r : Magnitudes) → ((s : ℕ) → s ≤ 1 → lowered s ≡ p.off → measured s r ≡ measured_by k l (with_sign s (pos a))) → measured sign r ≡ measured_at e l
    unfolding measured_at
    measured_is r f =
        f sign (sign_small e.radius) (sym off_is)
        ∙ ap (measured_by k l) angle_is
        ∙ ap (λ x. measured_by x l (angle_of (turn_of x e.radius whole l))) (sym h)
