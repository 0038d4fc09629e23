-- `walk::visit::distance` meets its contract: a square for each coordinate, and their sum.
use mathlib.Core.Path.{◌≡◌, ◌∙◌, ap, ap₂}
use Prim.Native.Nat.{ℕ, ◌+◌, ◌*◌, ◌≤◌}
use native.Mathlib.Omega.{arith}
use lib.IntN.{ℤ, nat_abs, ◌-ℤ◌}
use Rattle.integers.specs.Plane.{squared}
use Rattle.integers.proofs.Held.{held, held_small, held_as, nat_abs_held}
use Rattle.model.specs.declared.Point.{Point}
use Rattle.model.specs.Acceptance.{frame}
use Rattle.model.specs.Stations.{distance_sq}
use Rattle.elements.specs.Extent.{widest_position}
use Rattle.elements.proofs.Extent.{extent}
use Rattle.walk.proofs.visit.distance.Goals.{After-position-at}
use Rattle.walk.proofs.visit.distance.Goals as goal

-- a coordinate of the point and one of the position, through the bits of their width
gap_held : (a b : ℤ) → nat_abs a ≤ frame → nat_abs b ≤ widest_position → (nat_abs (held a) ≤ frame) × (nat_abs (held b) ≤ widest_position)
gap_held a b h k = (omega (arith, nat_abs_held a (omega arith)), omega (arith, nat_abs_held b (omega arith)))

gap_is : (a b b' : ℤ) {r : ℕ} → nat_abs a ≤ frame → nat_abs b' ≤ widest_position → b ≡ b' → r ≡ nat_abs (held a -ℤ held b) * nat_abs (held a -ℤ held b) → r ≡ nat_abs (a -ℤ b') * nat_abs (a -ℤ b')
gap_is a b b' h k i e = e ∙ ap (λ (z : ℤ). nat_abs z * nat_abs z) (ap₂ ◌-ℤ◌ (held_small a (omega arith)) (held_as i (omega arith)))

-- the position's coordinates
record Placed (c : After-position-at) : Type 0 where
  x : nat_abs c.position-at.result.x ≤ widest_position
  y : nat_abs c.position-at.result.y ≤ widest_position

placed : (c : After-position-at) → Placed c
placed c =
    let b = extent c.requires.ready.accepted c.requires.s_le_length in
    record {
      x = omega (arith, b.x, ap (λ (q : Point). nat_abs q.x) c.position-at.ensures);
      y = omega (arith, b.y, ap (λ (q : Point). nat_abs q.y) c.position-at.ensures);
    }

pub squared_gap-requires : goal.squared_gap-requires
squared_gap-requires c =
    gap_held c.args.q.x c.position-at.result.x c.requires.in_frame.x (placed (goal.at.squared_gap-requires c).After-position-at).x

pub squared_gap-requires-2 : goal.squared_gap-requires-2
squared_gap-requires-2 c =
    gap_held c.args.q.y c.position-at.result.y c.requires.in_frame.y (placed (goal.at.squared_gap-requires-2 c).After-position-at).y

pub returns : goal.returns
unfolding distance_sq squared
returns c =
    let q = c.args.q in
    let b = extent c.requires.ready.accepted c.requires.s_le_length in
    ap₂ ◌+◌
    (gap_is q.x c.position-at.result.x _ c.requires.in_frame.x b.x (ap (λ (q : Point). q.x) c.position-at.ensures) c.squared_gap.ensures.value)
    (gap_is q.y c.position-at.result.y _ c.requires.in_frame.y b.y (ap (λ (q : Point). q.y) c.position-at.ensures) c.squared_gap-2.ensures.value)
