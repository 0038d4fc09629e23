-- `sightings::gone` meets its contract: the product is below 2^57, so neither it nor the sum leaves 64 bits.
use Prim.Native.Nat.{◌*◌, ◌^◌, ◌≤◌}
use mathlib.Core.List.{[], ◌∷◌}
use mathlib.Core.Path.{◌≡◌, ap, ◌∙◌}
use native.Mathlib.Omega.{arith}
use lib.IntN.{ℤ, nat_abs, ◌+ℤ◌, ◌*ℤ◌}
use mir.Syntax.{w32}
use mir.Val.{to_z, of_z}
use Rattle.integers.proofs.Machine.{Env, env, machine, fits_machine, by_machine, abs_machine}
use Rattle.integers.proofs.Held.{held}
use Rattle.model.specs.Rounding.{ONE, near}
use Rattle.model.specs.Acceptance.{frame}
use Rattle.model.specs.Sightings.{longest_sight}
use Rattle.rounding.proofs.Sizes.{near_within}
use Rattle.sightings.proofs.gone.Goals.{After-near_one, Start}
use Rattle.sightings.proofs.gone.Goals as goal

module _ (c : Start) where
  abbrev Γ : Env
  Γ = env (c.args.from ∷ c.args.distance ∷ c.args.along ∷ []) (frame ∷ longest_sight ∷ 2 * ONE ∷ []) (c.requires.start, (c.requires.length, (c.requires.component, tt)))

  abbrev product : ℤ
  product = c.args.distance *ℤ c.args.along

  -- as the machine has it
  abbrev computed : ℤ
  computed = held (held (to_z w32 (of_z w32 c.args.distance)) *ℤ held c.args.along)

  is_product : computed ≡ product
  is_product = by_machine Γ (search machine depth 20) (search machine depth 20) tt

  product_small : nat_abs computed ≤ 2 ^ 57
  product_small = abs_machine Γ computed (search machine depth 20) tt

  gone_small : nat_abs (near computed ONE) ≤ 2 ^ 27
  gone_small = near_within {d = ONE} (omega arith) computed (omega (arith, product_small))

pub overflow_cast-result : goal.overflow_cast-result
overflow_cast-result c = fits_machine (Γ c) (search machine depth 20) tt

pub overflow_cast-distance : goal.overflow_cast-distance
overflow_cast-distance c = fits_machine (Γ c) (search machine depth 20) tt

pub overflow_mul-distance : goal.overflow_mul-distance
overflow_mul-distance c = fits_machine (Γ c) (search machine depth 20) tt

pub near_one-requires : goal.near_one-requires
near_one-requires c = omega (arith, product_small c)

-- what was gone, in 64 bits
module _ (c : After-near_one) where
  abbrev with_gone : Env
  with_gone =
      env (c.args.from ∷ c.near_one.result ∷ []) (frame ∷ 2 ^ 27 ∷ [])
      (c.requires.start, (omega (arith, gone_small c.before, ap nat_abs c.near_one.ensures), tt))

pub overflow_add-result : goal.overflow_add-result
overflow_add-result c = fits_machine (with_gone c) (search machine depth 20) tt

pub returns : goal.returns
returns c =
    by_machine (with_gone c) (search machine depth 20) (search machine depth 20) tt
    ∙ ap (λ (z : ℤ). c.args.from +ℤ z) (c.near_one.ensures ∙ ap (λ (z : ℤ). near z ONE) (is_product c.before))
