-- `stations::offset_along` meets its contract: the product fits, and is rounded.
use mathlib.Core.Path.{refl, ap, ◌∙◌}
use native.Mathlib.Omega.{arith}
use Prim.Native.Nat.{◌*◌, ◌≤◌}
use lib.IntN.{ℤ, nat_abs, ◌*ℤ◌}
use mir.Facts.{to_z-of_z}
use mir.Syntax.{w64}
use Rattle.model.specs.Rounding.{ONE, near}
use Rattle.model.specs.Answers.{widest_offset}
use Rattle.stations.proofs.StationExtent.{aside_within}
use Rattle.stations.proofs.StationHeld.{Computed, computed}
use Rattle.stations.proofs.offset_along.Goals.{Start}
use Rattle.stations.proofs.offset_along.Goals as goal

module _ (c : Start) where
  small : nat_abs (c.args.w *ℤ c.args.t) ≤ ONE * (2 * widest_offset)
  small = aside_within c.args.w c.args.t c.requires.0 c.requires.1

  product : Computed ◌*ℤ◌ c.args.w c.args.t c.args.w c.args.t
  product = computed ◌*ℤ◌ refl refl (omega (arith, c.requires.0)) (omega (arith, c.requires.1)) (omega (arith, small))

pub overflow_mul-w : goal.overflow_mul-w
overflow_mul-w c = (product (goal.at.overflow_mul-w c).Start).fits

pub near_one-requires : goal.near_one-requires
near_one-requires c = omega (arith, ap nat_abs (product (goal.at.near_one-requires c).Start).is, small (goal.at.near_one-requires c).Start)

pub returns : goal.returns
returns c = to_z-of_z {w = w64} (record { sfits = c.near_one.type_inv }) ∙ c.near_one.ensures ∙ ap (λ (z : ℤ). near z ONE) (product (goal.at.returns c).Start).is
