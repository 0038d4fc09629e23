-- What the walk leaves out on an element lies farther than the best. Positions j mm apart are at most 150 j + 30 grains apart, and the walk leaves out j stations
-- only where the distance exceeds the best by 150 j + 31 at least, so by the triangle inequality 1 grain is left.
use mathlib.Core.Path.{◌≡◌, ap₂, subst}
use mathlib.Core.List.{[], ◌∷◌}
use Prim.Native.Nat.{ℕ, ◌+◌, ◌-◌, ◌*◌, ◌/◌, ◌≤◌, ◌<◌}
use native.Mathlib.Omega.{arith}
use native.Mathlib.Nat.{lt_of_lt_of_le}
use lib.IntN.{ℤ, ◌-ℤ◌}
use Rattle.integers.specs.Root.{root}
use Rattle.integers.specs.Plane.{squared}
use Rattle.integers.proofs.Root.{root_is}
use Rattle.integers.proofs.Plane.{triangle_below}
use Rattle.integers.proofs.Written.{writing, identity}
use Rattle.model.specs.declared.Element.{Element}
use Rattle.model.specs.declared.Point.{Point}
use Rattle.model.specs.Series.{position_on}
use Rattle.model.specs.Accepted.{Accepted}
use Rattle.model.specs.Stations.{distance_sq}
use Rattle.model.specs.Walk.{skipped}
use Rattle.elements.proofs.Spacing.{spacing, distance_sq_sym}

difference_cancels : (a b c : ℤ) → (a -ℤ b) -ℤ (c -ℤ b) ≡ a -ℤ c
difference_cancels a b c = identity {ρ = a ∷ b ∷ c ∷ []} (search writing depth 20) (search writing depth 20) tt

-- from p to q are root b + 1 + m grains or more, and from q to r at most m: so r lies farther from p than the root of b
farther_than : (p q r : Point) (m b : ℕ) → distance_sq q r ≤ m * m → m + (root b + 1) ≤ root (distance_sq p q) → b < distance_sq p r
unfolding distance_sq
farther_than p q r m b h k =
    lt_of_lt_of_le (root_is b).high
    (subst (λ (n : ℕ). (root b + 1) * (root b + 1) ≤ n)
    (ap₂ squared (difference_cancels p.x q.x r.x) (difference_cancels p.y q.y r.y))
    (triangle_below (p.x -ℤ q.x) (p.y -ℤ q.y) (r.x -ℤ q.x) (r.y -ℤ q.y) (root (distance_sq p q)) m (root b + 1)
    (root_is (distance_sq p q)).low
    (omega (arith, distance_sq_sym q r))
    k))

-- the one fact of the series that the walk rests on
pub positions_close : (e : Element) → Accepted e → (s j : ℕ) → s + j ≤ e.length → distance_sq (position_on e s) (position_on e (s + j)) ≤ (150 * j + 30) * (150 * j + 30)
positions_close = spacing

-- What is left out lies farther than the best, b, where the distance exceeds it by 31 grains and 150 a station.
pub surplus_farther : (e : Element) → Accepted e → (p : Point) (s j b : ℕ) → s + j ≤ e.length → 0 < j →
    j ≤ (root (distance_sq p (position_on e s)) - root b - 31) / 150 →
    b < distance_sq p (position_on e (s + j))
surplus_farther e a p s j b h z k =
    farther_than p (position_on e s) (position_on e (s + j)) (150 * j + 30) b (positions_close e a s j h) (omega arith)

-- "s + 1 + (a − b − 31) div 150"
pub skipped_farther : (e : Element) → Accepted e → (p : Point) (s j b : ℕ) → s + j ≤ e.length → 0 < j → j ≤ skipped (distance_sq p (position_on e s)) b →
    b < distance_sq p (position_on e (s + j))
unfolding skipped
skipped_farther = surplus_farther
