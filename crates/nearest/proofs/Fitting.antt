-- An answer fits 32 bits: the station is on the alignment, and the point lies at most 20,000,000 grains from the position, along and aside.
use mathlib.Core.List.{List}
use mathlib.Core.Path.{◌≡◌, ap}
use Prim.Native.Nat.{ℕ, ◌+◌, ◌*◌, ◌^◌, ◌≤◌, ◌<◌}
use native.Mathlib.Omega.{arith}
use native.Mathlib.Nat.{le_of_lt}
use lib.ListN.{length}
use lib.IntN.{ℤ, nat_abs, ◌-ℤ◌}
use Rattle.integers.specs.Plane.{squared}
use Rattle.integers.proofs.Abs.{≤-square}
use Rattle.model.specs.declared.Element.{Element}
use Rattle.model.specs.declared.Point.{Point}
use Rattle.model.specs.declared.Located.TheVariants.{At as LocatedAt}
use Rattle.model.specs.Acceptance.{longest_alignment}
use Rattle.model.specs.Accepted.{AllAccepted}
use Rattle.model.specs.Stations.{position_at, tangent_at, distance_sq, D}
use Rattle.model.specs.Judged.{judged, residual_of, offset_of, minus, residual_at, offset_at}
use Rattle.model.specs.Answers.{farthest, located_on}
use Rattle.model.proofs.Judged.{judged_least}
use Rattle.rounding.proofs.Sizes.{near_turn}
use Rattle.stations.proofs.StationExtent.{station_placeable}
use Rattle.stations.proofs.StationTotal.{total_within}
use Rattle.walk_laws.proofs.Outcomes.{answered}

pub record Fits (station : ℕ) (offset residual : ℤ) : Type 0 where
  pub short : station ≤ longest_alignment
  pub aside : nat_abs offset ≤ 80000000
  pub along : nat_abs residual ≤ 80000000

-- a side of a squared distance
side : (a b : ℕ) → a * a + b * b ≤ farthest → a ≤ 20000000
side a b h = ≤-square (omega (arith, h))

-- along a direction with components below 2^31, and aside
module _ (t d : Point) (hx : nat_abs t.x < 2 ^ 31) (hy : nat_abs t.y < 2 ^ 31) (kx : nat_abs d.x ≤ 20000000) (ky : nat_abs d.y ≤ 20000000) where
  residual_small : nat_abs (residual_of t d) ≤ 80000000
  unfolding residual_of
  residual_small = (near_turn 2 t.x d.x t.y d.y (le_of_lt hx) (le_of_lt hy) kx ky).1

  offset_small : nat_abs (offset_of t d) ≤ 80000000
  unfolding offset_of
  offset_small = (near_turn 2 t.x d.y t.y d.x (le_of_lt hx) (le_of_lt hy) ky kx).0

-- the differences from the position
near_sides : (p q : Point) → distance_sq p q ≤ farthest → (nat_abs (minus p q).x ≤ 20000000) × (nat_abs (minus p q).y ≤ 20000000)
unfolding distance_sq squared minus
near_sides p q h =
    let a = nat_abs (p.x -ℤ q.x) in
    let b = nat_abs (p.y -ℤ q.y) in
    (side a b h, side b a (omega (arith, h)))

pub answer_fits : (es : List Element) → length es ≤ 60 → AllAccepted es → (p : Point) (station : ℕ) (offset residual : ℤ) (count : ℕ) →
    located_on es p ≡ LocatedAt station offset residual count → Fits station offset residual
unfolding D residual_at offset_at
answer_fits es most accepted p station offset residual count e =
    let a = (answered es p station offset residual count).0 e in
    let s = judged es p in
    let on = (judged_least es p).within in
    let t = station_placeable es s accepted on in
    let d = near_sides p (position_at es s) a.near in
    record {
      short = omega (arith, a.station, on, total_within es accepted);
      aside = omega (arith, ap nat_abs a.offset, offset_small (tangent_at es s) (minus p (position_at es s)) t.tx t.ty d.0 d.1);
      along = omega (arith, ap nat_abs a.residual, residual_small (tangent_at es s) (minus p (position_at es s)) t.tx t.ty d.0 d.1);
    }
