-- The exact sums of an element move by at most 122 grains along and 79 aside for each mm. With lengths z up to L, the turn is z/q with 2L ≤ q on an arc,
-- and z²/q with 2L² ≤ q on a spiral; both are at most 1/2, and z times the change of twice the turn is at most 2 j.
use mathlib.Core.Bool.{Bool, true, false}
use mathlib.Core.Path.{◌≡◌, refl, ap}
use mathlib.Core.List.{[], ◌∷◌}
use Prim.Native.Nat.{ℕ, ◌+◌, ◌-◌, ◌*◌, ◌<◌, ◌≤◌}
use native.Mathlib.Omega.{arith}
use native.Mathlib.Nat.{le_trans, le_of_eq, mul-le-mul, mul-le-mul_left, mul-le-mul_right, mul-pos, mul_assoc}
use lib.IntN.{ℤ, pos, negsuc, neg_ℤ, nat_abs, ◌+ℤ◌, ◌-ℤ◌, ◌*ℤ◌}
use Rattle.integers.proofs.Order.{order, difference, parts}
use Rattle.integers.proofs.Abs.{nat_abs_neg}
use Rattle.integers.proofs.Ranges.{abs_within}
use Rattle.integers.proofs.Written.{writing, identity, identityℕ}
use Rattle.model.specs.declared.Shape.{Shape}
use Rattle.model.specs.declared.Shape.TheVariants.{Straight, Circular, Clothoid}
use Rattle.model.specs.declared.Element.{Element}
use Rattle.model.specs.Kinds.{shape_of, anchored_far}
use Rattle.model.specs.Series.{from_anchor, whole_length, signed_by, turn_of, length_at, turn_at}
use Rattle.model.specs.Bound.{exact_along, exact_aside, exact_along_at, exact_aside_at}
use Rattle.model.specs.Accepted.{Accepted}
use Rattle.model.proofs.Accepted.{RadiusFits, numbers}
use Rattle.elements.proofs.Angle.{length_at_whole}
use Rattle.elements.proofs.Moves.{twice, Turning, Moved, along_moves, aside_moves}

-- ---- the length from the anchor

gap-≤ : (m n j : ℕ) → m ≤ n + j → n ≤ m + j → nat_abs (pos m -ℤ pos n) ≤ j
gap-≤ m n j h k = omega (order, difference (pos m) (pos n), parts (pos m -ℤ pos n))

from_apart : (far : Bool) (l s j : ℕ) → s + j ≤ l → nat_abs (pos (from_anchor far l s) -ℤ pos (from_anchor far l (s + j))) ≤ j
unfolding from_anchor
from_apart false l s j h = gap-≤ s (s + j) j (omega arith) (omega arith)
from_apart true l s j h = gap-≤ (l - s) (l - (s + j)) j (omega arith) (omega arith)

length_apart : (e : Element) (s j : ℕ) → s + j ≤ e.length → nat_abs (pos (length_at e s) -ℤ pos (length_at e (s + j))) ≤ j
unfolding length_at
length_apart e s j h = from_apart (anchored_far e.kind) e.length s j h

-- ---- the sign of the radius

twice_neg : (m : ℤ) → twice (neg_ℤ m) ≡ neg_ℤ (twice m)
twice_neg m = identity {ρ = m ∷ []} (search writing depth 20) (search writing depth 20) tt

turns_neg : (z : ℕ) (m n : ℤ) → pos z *ℤ (twice (neg_ℤ m) -ℤ twice (neg_ℤ n)) ≡ neg_ℤ (pos z *ℤ (twice m -ℤ twice n))
turns_neg z m n = identity {ρ = pos z ∷ m ∷ n ∷ []} (search writing depth 20) (search writing depth 20) tt

abs_neg : {x : ℤ} (y : ℤ) {k : ℕ} → x ≡ neg_ℤ y → nat_abs y ≤ k → nat_abs x ≤ k
abs_neg y e h = le_trans (le_of_eq (ap nat_abs e)) (le_trans (le_of_eq (nat_abs_neg y)) h)

signed_turning : {z₁ z₂ j q n₁ n₂ : ℕ} → Turning z₁ z₂ j q (pos n₁) (pos n₂) → (r : ℤ) → Turning z₁ z₂ j q (signed_by r n₁) (signed_by r n₂)
unfolding signed_by
signed_turning t (pos r) = t
signed_turning {z₁} {n₁} {n₂} t (negsuc r) =
    record {
      apart = t.apart;
      small₁ = abs_neg (twice (pos n₁)) (twice_neg (pos n₁)) t.small₁;
      small₂ = abs_neg (twice (pos n₂)) (twice_neg (pos n₂)) t.small₂;
      turns = abs_neg (pos z₁ *ℤ (twice (pos n₁) -ℤ twice (pos n₂))) (turns_neg z₁ (pos n₁) (pos n₂)) t.turns;
    }

-- ---- arc and spiral

module _ (l z₁ z₂ j : ℕ) (h₁ : z₁ ≤ l) (h₂ : z₂ ≤ l) (a : nat_abs (pos z₁ -ℤ pos z₂) ≤ j) where
  length_turns : nat_abs (pos z₁ *ℤ (twice (pos z₁) -ℤ twice (pos z₂))) ≤ 2 * (j * l)
  length_turns =
      abs_within
      {ρ = pos z₁ ∷ (pos z₁ -ℤ pos z₂) ∷ []}
      (l ∷ j ∷ [])
      (pos z₁ *ℤ (twice (pos z₁) -ℤ twice (pos z₂)))
      (pos 2 *ℤ ((pos z₁ -ℤ pos z₂) *ℤ pos z₁))
      (identity {ρ = pos z₁ ∷ pos z₂ ∷ []} (search writing depth 20) (search writing depth 20) tt)
      (h₁, (a, tt))
      (search writing depth 20)
      refl

  arc_turning : {q : ℕ} → 2 * l ≤ q → Turning z₁ z₂ j q (pos z₁) (pos z₂)
  arc_turning {q} h =
      record {
        apart = a;
        small₁ = omega arith;
        small₂ = omega arith;
        turns = le_trans length_turns (mul-le-mul_left 2 (mul-le-mul_left j (omega arith)));
      }

  spiral_turning : {r : ℕ} → l ≤ r → Turning z₁ z₂ j (2 * r * l) (pos (z₁ * z₁)) (pos (z₂ * z₂))
  spiral_turning {r} h =
      let d = pos z₁ *ℤ (twice (pos z₁) -ℤ twice (pos z₂)) in
      record {
        apart = a;
        small₁ = omega (arith, mul-le-mul {n₁ = z₁} {n₂ = r} (omega arith) h₁, mul_assoc 2 r l);
        small₂ = omega (arith, mul-le-mul {n₁ = z₂} {n₂ = r} (omega arith) h₂, mul_assoc 2 r l);
        turns =
            le_trans
            (abs_within
            {ρ = d ∷ pos z₁ ∷ pos z₂ ∷ []}
            (2 * (j * l) ∷ l ∷ l ∷ [])
            (pos z₁ *ℤ (twice (pos (z₁ * z₁)) -ℤ twice (pos (z₂ * z₂))))
            (d *ℤ (pos z₁ +ℤ pos z₂))
            (identity {ρ = pos z₁ ∷ pos z₂ ∷ []} (search writing depth 20) (search writing depth 20) tt)
            (length_turns, (h₁, (h₂, tt)))
            (search writing depth 20)
            (identityℕ {ρ = pos j ∷ pos l ∷ []} {b = 2 * (j * (2 * l * l))} (search writing depth 20) (search writing depth 20) tt))
            (mul-le-mul_left 2 (mul-le-mul_left j (mul-le-mul_right l (mul-le-mul_left 2 h))));
      }

-- ---- an element of any shape

-- for each of j mm both exact sums move by at most 122 and 79 grains
record BothMoved (k : Shape) (r : ℤ) (l z₁ z₂ j : ℕ) : Type 0 where
  along : Moved (122 * j) (exact_along k z₁ (turn_of k r l z₁)) (exact_along k z₂ (turn_of k r l z₂))
  aside : Moved (79 * j) (exact_aside k z₁ (turn_of k r l z₁)) (exact_aside k z₂ (turn_of k r l z₂))

module _ (r : ℤ) (l z₁ z₂ j : ℕ) (h : 1 ≤ l) (h₁ : z₁ ≤ l) (h₂ : z₂ ≤ l) (a : nat_abs (pos z₁ -ℤ pos z₂) ≤ j) where
  hundredfold : nat_abs (pos (100 * z₁) -ℤ pos (100 * z₂)) ≤ 122 * j * 1
  hundredfold = let d = pos z₁ -ℤ pos z₂ in omega (order, difference (pos z₁) (pos z₂), parts d, difference (pos (100 * z₁)) (pos (100 * z₂)), parts (pos (100 * z₁) -ℤ pos (100 * z₂)))

  both_move : (k : Shape) → RadiusFits k l (nat_abs r) → BothMoved k r l z₁ z₂ j
  unfolding exact_along exact_aside turn_of RadiusFits
  both_move Straight f =
      record {
        along = record { same = refl; above = omega arith; moved = hundredfold };
        aside = record { same = refl; above = omega arith; moved = omega arith };
      }
  both_move Circular f =
      let t = signed_turning (arc_turning l z₁ z₂ j h₁ h₂ a f.0) r in
      let q : 0 < nat_abs r = omega arith in
      record { along = along_moves t q 6 120 122 (omega arith) (omega arith); aside = aside_moves t q 2 12 360 79 (omega arith) (omega arith) }
  both_move Clothoid f =
      let t = signed_turning (spiral_turning l z₁ z₂ j h₁ h₂ a f.0) r in
      let q : 0 < 2 * nat_abs r * l = mul-pos {m = 2 * nat_abs r} {n = l} (omega arith) h in
      record { along = along_moves t q 10 216 122 (omega arith) (omega arith); aside = aside_moves t q 3 14 440 79 (omega arith) (omega arith) }

-- the exact sums of an element, j mm apart
pub record ExactMoved (e : Element) (s j : ℕ) : Type 0 where
  pub along : Moved (122 * j) (exact_along_at e s) (exact_along_at e (s + j))
  pub aside : Moved (79 * j) (exact_aside_at e s) (exact_aside_at e (s + j))

pub exact_moves : (e : Element) → Accepted e → (s j : ℕ) → s + j ≤ e.length → ExactMoved e s j
unfolding exact_along_at exact_aside_at turn_at
exact_moves e a s j h =
    let both =
    both_move e.radius (whole_length e) (length_at e s) (length_at e (s + j)) j (numbers a).whole
    (length_at_whole e (omega arith))
    (length_at_whole e h)
    (length_apart e s j h)
    (shape_of e.kind)
    (numbers a).radius in
    record { along = both.along; aside = both.aside }
