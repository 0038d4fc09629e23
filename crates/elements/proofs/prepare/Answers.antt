-- `elements::prepare` meets its contract: each field is as the definition has it.
use mathlib.Core.Bool.{Bool}
use mathlib.Core.Path.{◌≡◌, refl, sym, ◌∙◌, ap, ap₂, subst}
use Prim.Native.Nat.{ℕ, ◌-◌, ◌/◌, ◌≤◌}
use native.Mathlib.Omega.{arith}
use native.Mathlib.Nat.{le_trans}
use lib.IntN.{ℤ, nat_abs}
use Rattle.integers.specs.Signs.{with_sign, sign_of}
use Rattle.integers.proofs.Signed.{nat_abs_sign, sign_magnitude}
use Rattle.integers.proofs.Held.{held, held_small, held_as, held_within, held_sign, sign_held}
use Rattle.model.specs.Accepted.{Accepted}
use Rattle.model.proofs.Accepted.{numbers}
use Rattle.model.specs.declared.Shape.{Shape}
use Rattle.model.specs.declared.Element.{Element}
use Rattle.model.specs.Kinds.{shape_of}
use Rattle.model.specs.Acceptance.{widest}
use Rattle.model.specs.Rounding.{ONE}
use Rattle.model.specs.Series.{whole_length, facing}
use Rattle.rounding.specs.Rounded.{lowered}
use Rattle.rounding.proofs.Quotients.{lowered-≤}
use Rattle.elements.specs.declared.Prepared.{Prepared}
use Rattle.elements.specs.Prepared.{divisor_of, prepared_of, Ready}
use Rattle.elements.proofs.Extent.{unit_within, unit_within', facing_within}
use Rattle.elements.proofs.Preparing.{radius_within, off_fits, ready}
use Rattle.elements.proofs.prepare.Goals.{After-divisor_of-divisor, After-lowered_for-off, After-magnitude, After-with_sign, Start}
use Rattle.elements.proofs.prepare.Goals as goal

module _ {e : Element} (a : Accepted e) where
  c_small : nat_abs e.c ≤ ONE
  c_small = unit_within e.c e.s (numbers a).unit

  s_small : nat_abs e.s ≤ ONE
  s_small = unit_within' e.c e.s (numbers a).unit

  radius_small : nat_abs e.radius ≤ widest
  radius_small = radius_within (shape_of e.kind) (whole_length e) (numbers a).radius

  radius_held : held e.radius ≡ e.radius
  radius_held = held_small e.radius (omega (arith, radius_small))

module _ (c : After-lowered_for-off) where
  negative_is : c.sign_of-negative.result ≡ sign_of c.args.e.radius
  negative_is = c.sign_of-negative.ensures ∙ ap sign_of (radius_held c.requires)

  off_is : c.lowered_for-off.result ≡ lowered (sign_of c.args.e.radius)
  off_is = c.lowered_for-off.ensures ∙ ap lowered negative_is

radius_is : (c : After-magnitude) → c.magnitude.result ≡ nat_abs c.args.e.radius
radius_is c = c.magnitude.ensures ∙ ap nat_abs (radius_held c.requires)

pub divisor_of-divisor-requires : goal.divisor_of-divisor-requires
divisor_of-divisor-requires c = omega (arith, radius_is (goal.at.divisor_of-divisor-requires c).After-magnitude, radius_small c.requires, (numbers c.requires).longest)

divisor_is : (c : After-divisor_of-divisor) → c.divisor_of-divisor.result ≡ divisor_of (shape_of c.args.e.kind) (nat_abs c.args.e.radius) (whole_length c.args.e)
divisor_is c =
    c.divisor_of-divisor.ensures
    ∙ ap₂ (λ (k : Shape) (r : ℕ). divisor_of k r (whole_length c.args.e)) c.shape_of.ensures (c.magnitude.ensures ∙ ap nat_abs (radius_held c.requires))

pub overflow_sub-result : goal.overflow_sub-result
overflow_sub-result c =
    let e = c.args.e in
    let n = numbers c.requires in
    let at = goal.at.overflow_sub-result c in
    omega (
      arith,
      off_is at.After-lowered_for-off,
      divisor_is at.After-divisor_of-divisor,
      off_fits (shape_of e.kind) {off = lowered (sign_of e.radius)} n.radius (le_trans (lowered-≤ (sign_of e.radius)) (sign_magnitude e.radius)) n.whole,
    )

pub faced-requires : goal.faced-requires
faced-requires c = held_within c.args.e.c (omega (arith, c_small c.requires))

pub faced-requires-2 : goal.faced-requires-2
faced-requires-2 c = held_within c.args.e.s (omega (arith, s_small c.requires))

pub with_sign-requires : goal.with_sign-requires
with_sign-requires c = held_within c.args.e.s (omega (arith, s_small c.requires))

-- −s
module _ (c : After-with_sign) where
  minus : c.with_sign.result ≡ with_sign 1 c.args.e.s
  minus = held_sign c.args.e.s (s_small c.requires) refl c.with_sign.ensures

  minus_small : nat_abs c.with_sign.result ≤ ONE
  minus_small = omega (arith, ap nat_abs minus, nat_abs_sign 1 c.args.e.s, s_small c.requires)

pub with_sign-requires-2 : goal.with_sign-requires-2
with_sign-requires-2 c = held_within c.with_sign.result (omega (arith, minus_small (goal.at.with_sign-requires-2 c).After-with_sign))

pub with_sign-requires-3 : goal.with_sign-requires-3
with_sign-requires-3 c = held_within c.args.e.c (omega (arith, c_small c.requires))

abbrev made : Element → ℕ → ℕ → ℤ → ℤ → ℤ → ℤ → Prepared
made e n d ux uy vx vy = record { element = e; off = n; divisor = d; half = d / 2 - n; ux = ux; uy = uy; vx = vx; vy = vy }

same : (e : Element) {n m c d : ℕ} {a a' b b' u u' v v' : ℤ} → n ≡ m → c ≡ d → a ≡ a' → b ≡ b' → u ≡ u' → v ≡ v' → made e n c a b u v ≡ made e m d a' b' u' v'
same e i j f g h k = rw (i, j, f, g, h, k)

-- a component that is negated where the anchor is the far end, through 64 bits
faced_held : {b far : Bool} (z : ℤ) {r : ℤ} → nat_abs z ≤ ONE → b ≡ far → r ≡ facing b (held z) → held r ≡ facing far z
faced_held {far = far} z h i q = held_as (q ∙ ap₂ facing i (held_small z (omega (arith, h)))) (omega (arith, facing_within far z h))

pub returns : goal.returns
unfolding prepared_of with_sign
returns c =
    let e = c.args.e in
    let at = goal.at.returns c in
    let sign = negative_is at.After-lowered_for-off in
    let at_minus = at.After-with_sign in
    let made_is =
    same e (off_is at.After-lowered_for-off) (divisor_is at.After-divisor_of-divisor)
    (faced_held e.c (c_small c.requires) c.anchored_far-far.ensures c.faced.ensures)
    (faced_held e.s (s_small c.requires) c.anchored_far-far.ensures c.faced-2.ensures)
    (sign_held c.with_sign.result (minus_small at_minus) sign c.with_sign-2.ensures ∙ ap (with_sign (sign_of e.radius)) (minus at_minus))
    (sign_held e.c (c_small c.requires) sign c.with_sign-3.ensures) in
    record { value = made_is; ready = subst Ready (sym made_is) (ready c.requires) }
