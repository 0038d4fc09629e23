-- The bound of document 01, "Position on an element": shape by shape it is the one statement of `Sums` at the numbers of the shape's series.
use Prim.Native.Nat.{ℕ, ◌*◌, ◌≤◌}
use native.Mathlib.Omega.{arith}
use lib.IntN.{pos, nat_abs, ◌-ℤ◌, ◌*ℤ◌}
use Rattle.model.specs.declared.Shape.{Shape}
use Rattle.model.specs.declared.Shape.TheVariants.{Straight, Circular, Clothoid}
use Rattle.model.specs.declared.Element.{Element}
use Rattle.model.specs.Acceptance.{longest_element}
use Rattle.model.specs.Kinds.{shape_of}
use Rattle.model.specs.Series.{Fraction, series_along, series_aside, angle_of, local_of, angle_at, unsigned_at}
use Rattle.model.specs.Bound.{Within2, exact_along, exact_aside, exact_along_at, exact_aside_at, Bounded}
use Rattle.model.specs.Accepted.{Accepted}
use Rattle.elements.proofs.Angle.{Turn, turn_at_turn, length_at_within}
use Rattle.elements.proofs.Sums.{once_exact, near_along, near_aside}

module _ {l : ℕ} (short : l ≤ longest_element) {φ : Fraction} (turn : Turn φ) where
  along_within : (k : Shape) → Within2 (local_of k l (angle_of φ)).along (exact_along k l φ)
  unfolding local_of series_along exact_along Within2
  along_within Straight = omega (arith, once_exact (pos (100 * l)))
  along_within Circular = near_along {c = 6} {b = 1} {d = 20} (omega arith) turn short
  along_within Clothoid = near_along {c = 2} {b = 5} {d = 108} (omega arith) turn short

  aside_within : (k : Shape) → Within2 (local_of k l (angle_of φ)).aside (exact_aside k l φ)
  unfolding local_of series_aside exact_aside Within2
  aside_within Straight = omega arith
  aside_within Circular = near_aside {c = 12} {b = 1} {d = 30} (omega arith) turn short 2 (omega arith)
  aside_within Clothoid = near_aside {c = 2} {b = 7} {d = 220} (omega arith) turn short 3 (omega arith)

-- "u and v (on a spiral U and V) each lie within 2 grains of the exact fraction that the three-term sum gives"
pub bounded : (e : Element) → Accepted e → (s : ℕ) → s ≤ e.length → Bounded e s
unfolding unsigned_at angle_at exact_along_at exact_aside_at
bounded e a s h =
    let turn = turn_at_turn e a s h in
    let short = length_at_within e a s h in
    record { along = along_within short turn (shape_of e.kind); aside = aside_within short turn (shape_of e.kind) }

-- The same with the denominator multiplied out: u, or U, and v, or V, times the denominator of their sums lie within twice the denominator of the numerators.
pub along_within_2_grains : (e : Element) → Accepted e → (s : ℕ) → s ≤ e.length →
    nat_abs (pos (exact_along_at e s).denominator *ℤ (unsigned_at e s).along -ℤ (exact_along_at e s).numerator) ≤ 2 * (exact_along_at e s).denominator
unfolding Within2
along_within_2_grains e a s h = (bounded e a s h).along

pub aside_within_2_grains : (e : Element) → Accepted e → (s : ℕ) → s ≤ e.length →
    nat_abs (pos (exact_aside_at e s).denominator *ℤ (unsigned_at e s).aside -ℤ (exact_aside_at e s).numerator) ≤ 2 * (exact_aside_at e s).denominator
unfolding Within2
aside_within_2_grains e a s h = (bounded e a s h).aside
