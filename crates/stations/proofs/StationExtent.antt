-- How large the numbers are at a station of an accepted alignment, and those of its inverse.
use Prim.Native.Nat.{ℕ, ◌*◌, ◌^◌, ◌≤◌, ◌<◌}
use mathlib.Core.List.{List, [], ◌∷◌}
use mathlib.Core.Path.{◌≡◌, ap, subst}
use native.Mathlib.Nat.{mul-le-mul}
use native.Mathlib.Omega.{arith}
use lib.IntN.{ℤ, pos, nat_abs, ◌+ℤ◌, ◌*ℤ◌}
use Rattle.integers.proofs.Abs.{nat_abs-*}
use Rattle.model.specs.declared.Element.{Element}
use Rattle.model.specs.Rounding.{ONE, near}
use Rattle.model.specs.Stations.{total, position_at, tangent_at}
use Rattle.model.specs.Answers.{widest_offset}
use Rattle.model.specs.Accepted.{AllAccepted}
use Rattle.rounding.proofs.Sizes.{near_0, near_within}
use Rattle.elements.specs.declared.Placement.{Placement}
use Rattle.elements.specs.Reached.{placement_of}
use Rattle.elements.specs.Extent.{Placeable}
use Rattle.elements.proofs.Extent.{extent}
use Rattle.stations.proofs.StationAt.{at_accepted}

abbrev placed_in : List Element → ℕ → Placement
placed_in es s = placement_of (position_at es s) (tangent_at es s)

-- no element, and 0: nothing is left to round
abbrev nowhere : ℤ → Placement
nowhere z = record { x = pos 0 +ℤ z; y = pos 0 +ℤ z; tx = z; ty = z }

none_placed : placed_in [] 0 ≡ nowhere (pos 0)
unfolding position_at tangent_at
none_placed = ap nowhere (near_0 {d = ONE} (omega arith))

none_placeable : Placeable (placed_in [] 0)
none_placeable = rw none_placed (record { x = omega arith; y = omega arith; tx = omega arith; ty = omega arith })

pub station_placeable : (es : List Element) (s : ℕ) → AllAccepted es → s ≤ total es → Placeable (placement_of (position_at es s) (tangent_at es s))
unfolding position_at tangent_at total
station_placeable [] s a h = let e : 0 ≡ s = omega arith in subst (λ (n : ℕ). Placeable (placed_in [] n)) e none_placeable
station_placeable (e ∷ es) s a h =
    let r = at_accepted (e ∷ es) s (omega arith) a h in
    let b = extent r.accepted r.within in
    record { x = b.x; y = b.y; tx = b.tx; ty = b.ty }

-- an offset along a component of the direction
module _ (w t : ℤ) (h : nat_abs w ≤ widest_offset) (k : nat_abs t < 2 ^ 31) where
  pub aside_within : nat_abs (w *ℤ t) ≤ ONE * (2 * widest_offset)
  aside_within =
      let m : nat_abs w * nat_abs t ≤ widest_offset * 2 ^ 31 = mul-le-mul {n₁ = nat_abs w} {m₁ = nat_abs t} {n₂ = widest_offset} {m₂ = 2 ^ 31} h (omega arith) in
      omega (arith, nat_abs-* w t)

  pub near_aside_within : nat_abs (near (w *ℤ t) ONE) ≤ 2 * widest_offset
  near_aside_within = near_within {d = ONE} (omega arith) (w *ℤ t) aside_within
