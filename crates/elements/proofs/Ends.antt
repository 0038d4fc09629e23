-- The ends of an element: at its anchor, which is an exit spiral's far end and the start of the others, position and direction are those of its
-- record, with nothing lost to rounding. So a join is judged at an anchor on one side wherever an element starts that is no exit spiral.
use Prim.Native.Nat.{ℕ, ◌*◌, ◌<◌, ◌≤◌}
use mathlib.Core.Bool.{Bool, true, false}
use mathlib.Core.Path.{◌≡◌, refl, ◌∙◌, ap, ap₂}
use native.Mathlib.Nat.{mul-pos}
use native.Mathlib.Omega.{arith}
use lib.IntN.{ℤ, pos, negsuc, nat_abs, ◌+ℤ◌, ◌-ℤ◌, ◌*ℤ◌, zero-*ℤ, *ℤ-zero, *ℤ_comm, +ℤ_idr}
use Rattle.model.specs.declared.Shape.{Shape}
use Rattle.model.specs.declared.Shape.TheVariants.{Straight, Circular, Clothoid}
use Rattle.model.specs.declared.Element.{Element}
use Rattle.model.specs.declared.Point.{Point}
use Rattle.model.specs.Rounding.{ONE, near}
use Rattle.model.specs.Kinds.{shape_of, anchored_far}
use Rattle.model.specs.Series.{Series, arc_series, spiral_series, cosine_factor, sine_factor, F, square_of, series_along, series_aside, cosine, sine, fraction, Local, from_anchor, whole_length, signed_by, turn_of, angle_of, local_of, direction_of, facing, length_at, turn_at, angle_at, unsigned_at, local_at, direction_at, turned, moved_by, position_on, tangent_on}
use Rattle.model.specs.Accepted.{Accepted}
use Rattle.model.proofs.Rounding.{near_multiple}
use Rattle.rounding.proofs.Sizes.{near_0}
use Rattle.model.proofs.Accepted.{RadiusFits, numbers}

-- ---- the angle

signed_0 : (r : ℤ) → signed_by r 0 ≡ pos 0
unfolding signed_by
signed_0 (pos r) = refl
signed_0 (negsuc r) = refl

pub no_angle : {q : ℕ} → 1 ≤ q → angle_of (fraction (pos 0) q) ≡ pos 0
unfolding angle_of
no_angle h = near_0 h

signed_no_angle : (r : ℤ) {q : ℕ} → 1 ≤ q → angle_of (fraction (signed_by r 0) q) ≡ pos 0
signed_no_angle r {q} h = ap (λ n. angle_of (fraction n q)) (signed_0 r) ∙ no_angle h

no_turn : (k : Shape) (r : ℤ) (whole : ℕ) → 1 ≤ whole → RadiusFits k whole (nat_abs r) → angle_of (turn_of k r whole 0) ≡ pos 0
unfolding turn_of RadiusFits
no_turn Straight r whole h f = no_angle (omega arith)
no_turn Circular r whole h f = signed_no_angle r (omega (arith, f.0))
no_turn Clothoid r whole h f = signed_no_angle r (mul-pos {m = 2 * nat_abs r} {n = whole} (omega (arith, f.0)) h)

-- ---- the element's own frame

abbrev here : Local
here = record { along = pos 0; aside = pos 0 }

abbrev ahead : Local
ahead = record { along = pos ONE; aside = pos 0 }

-- a product that is 0 leaves nothing to round
near_no : {d : ℕ} → 0 < d → (z : ℤ) → near (pos 0 *ℤ z) d ≡ pos 0
near_no {d} h z = ap (λ n. near n d) (zero-*ℤ z) ∙ near_0 h

along_0 : (k : Series) → series_along k 0 (pos 0) ≡ pos 0
unfolding series_along
along_0 k = near_no {d = ONE} (omega arith) (F k.along_factor (square_of (pos 0)))

aside_0 : (k : Series) → 1 ≤ k.aside_divisor → series_aside k 0 (pos 0) ≡ pos 0
unfolding series_aside
aside_0 k h =
    let f = F k.aside_factor (square_of (pos 0)) in
    ap (λ w. near (w *ℤ f) (k.aside_divisor * ONE)) (near_0 {d = ONE} (omega arith)) ∙ near_no {d = k.aside_divisor * ONE} (mul-pos h (omega arith)) f

cosine_0 : cosine (pos 0) ≡ pos ONE
unfolding cosine square_of F
cosine_0 =
    ap (F cosine_factor) (near_0 {d = ONE} (omega arith))
    ∙ ap (λ z. pos ONE -ℤ z) (near_no {d = cosine_factor.a * ONE} (omega arith) (pos ONE -ℤ near (pos 0) cosine_factor.d))
    ∙ +ℤ_idr (pos ONE)

sine_0 : sine (pos 0) ≡ pos 0
unfolding sine
sine_0 = near_no {d = ONE} (omega arith) (F sine_factor (square_of (pos 0)))

abbrev local : ℤ → ℤ → Local
local u v = record { along = u; aside = v }

local_0 : (k : Shape) → local_of k 0 (pos 0) ≡ here
unfolding local_of
local_0 Straight = refl
local_0 Circular = ap₂ local (along_0 arc_series) (aside_0 arc_series (omega arith))
local_0 Clothoid = ap₂ local (along_0 spiral_series) (aside_0 spiral_series (omega arith))

pub direction_0 : (k : Shape) → direction_of k (pos 0) ≡ ahead
unfolding direction_of
direction_0 Straight = refl
direction_0 Circular = ap₂ local cosine_0 sine_0
direction_0 Clothoid = ap₂ local cosine_0 sine_0

facing_0 : (far : Bool) → facing far (pos 0) ≡ pos 0
unfolding facing
facing_0 false = refl
facing_0 true = refl

-- ---- in the plane

abbrev point : ℤ → ℤ → Point
point x y = record { x = x; y = y }

turned_here : (c s : ℤ) → turned c s here ≡ point (pos 0) (pos 0)
unfolding turned
turned_here c s =
    ap₂ (λ (a b : ℤ). point (near (a -ℤ b) ONE) (near (b +ℤ a) ONE)) (*ℤ-zero c) (*ℤ-zero s)
    ∙ ap (λ (z : ℤ). point z z) (near_0 {d = ONE} (omega arith))

turned_ahead : (c s : ℤ) → turned c s ahead ≡ point c s
unfolding turned
turned_ahead c s =
    ap₂ (λ (a b : ℤ). point (near (c *ℤ pos ONE -ℤ a) ONE) (near (s *ℤ pos ONE +ℤ b) ONE)) (*ℤ-zero s) (*ℤ-zero c)
    ∙ ap₂ (λ (a b : ℤ). point (near a ONE) (near b ONE)) (+ℤ_idr (c *ℤ pos ONE) ∙ *ℤ_comm c (pos ONE)) (+ℤ_idr (s *ℤ pos ONE) ∙ *ℤ_comm s (pos ONE))
    ∙ ap₂ point (near_multiple (omega arith) c) (near_multiple (omega arith) s)

-- position and direction at s are the record's
pub record Anchored (e : Element) (s : ℕ) : Type 0 where
  pub position : position_on e s ≡ record { x = e.x; y = e.y }
  pub direction : tangent_on e s ≡ record { x = e.c; y = e.s }

anchored : {e : Element} → Accepted e → {s : ℕ} → length_at e s ≡ 0 → Anchored e s
unfolding position_on tangent_on local_at direction_at unsigned_at angle_at turn_at moved_by
anchored {e} a {s} h =
    let n = numbers a in
    let far = anchored_far e.kind in
    let shape = shape_of e.kind in
    let t : angle_at e s ≡ pos 0 = ap (λ l. angle_of (turn_of shape e.radius (whole_length e) l)) h ∙ no_turn shape e.radius (whole_length e) n.whole n.radius in
    let local = ap₂ (local_of shape) h t ∙ local_0 shape in
    let direction = ap (direction_of shape) t ∙ direction_0 shape in
    record {
      position =
          ap (λ (w : Local). moved_by e.x e.y (turned e.c e.s (record { along = facing far w.along; aside = w.aside }))) local
          ∙ ap (λ z. moved_by e.x e.y (turned e.c e.s (record { along = z; aside = pos 0 }))) (facing_0 far)
          ∙ ap (moved_by e.x e.y) (turned_here e.c e.s)
          ∙ ap₂ point (+ℤ_idr e.x) (+ℤ_idr e.y);
      direction =
          ap (λ (w : Local). turned e.c e.s (record { along = w.along; aside = facing far w.aside })) direction
          ∙ ap (λ z. turned e.c e.s (record { along = pos ONE; aside = z })) (facing_0 far)
          ∙ turned_ahead e.c e.s;
    }

-- ---- the ends

-- where the anchor is, in mm from the element's start: "for an exit spiral the anchor is its far end, where it is straight; for the others its start"
unfoldable pub anchor_of : Bool → ℕ → ℕ
anchor_of false length = 0
anchor_of true length = length

from_anchor_lem : (far : Bool) (length : ℕ) → from_anchor far length (anchor_of far length) ≡ 0
unfolding from_anchor anchor_of
from_anchor_lem false length = refl
from_anchor_lem true length = omega arith

pub at_anchor : {e : Element} → Accepted e → Anchored e (anchor_of (anchored_far e.kind) e.length)
unfolding length_at
at_anchor {e} a = anchored a (from_anchor_lem (anchored_far e.kind) e.length)
