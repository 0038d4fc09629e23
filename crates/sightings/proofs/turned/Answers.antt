-- `sightings::turned` meets its contract: products up to 2^60, so no sum leaves 64 bits.
use Prim.Native.Nat.{◌^◌, ◌≤◌, ◌<◌}
use mathlib.Core.List.{[], ◌∷◌}
use mathlib.Core.Path.{◌≡◌, ap, ◌∙◌}
use native.Mathlib.Omega.{arith}
use lib.IntN.{ℤ, nat_abs, ◌+ℤ◌, ◌-ℤ◌, ◌*ℤ◌}
use mir.Facts.{to_z-of_z}
use mir.Syntax.{w64}
use Rattle.integers.proofs.Machine.{Env, env, machine, fits_machine, by_machine, abs_machine}
use Rattle.integers.proofs.Held.{held}
use Rattle.model.specs.Rounding.{ONE, near}
use Rattle.model.specs.Sightings.{turned}
use Rattle.sightings.proofs.turned.Goals.{Start}
use Rattle.sightings.proofs.turned.Goals as goal

-- ---- how large a product, a difference and a sum are

product : (u v : ℤ) → nat_abs u ≤ ONE → nat_abs v ≤ ONE → nat_abs (held u *ℤ held v) ≤ 2 ^ 60
product u v h k = abs_machine (env (u ∷ v ∷ []) (ONE ∷ ONE ∷ []) (h, (k, tt))) (held u *ℤ held v) (search machine depth 20) tt

difference : (p q : ℤ) → nat_abs p ≤ 2 ^ 60 → nat_abs q ≤ 2 ^ 60 → nat_abs (held (held p -ℤ held q)) < 2 ^ 62
difference p q h k = omega (arith, abs_machine (env (p ∷ q ∷ []) (2 ^ 60 ∷ 2 ^ 60 ∷ []) (h, (k, tt))) (held (held p -ℤ held q)) {k = 2 ^ 61} (search machine depth 20) tt)

sum : (p q : ℤ) → nat_abs p ≤ 2 ^ 60 → nat_abs q ≤ 2 ^ 60 → nat_abs (held (held p +ℤ held q)) < 2 ^ 62
sum p q h k = omega (arith, abs_machine (env (p ∷ q ∷ []) (2 ^ 60 ∷ 2 ^ 60 ∷ []) (h, (k, tt))) (held (held p +ℤ held q)) {k = 2 ^ 61} (search machine depth 20) tt)

-- ---- the components

module _ (c : Start) where
  abbrev b : ℤ
  b = c.args.backsight.x

  abbrev g : ℤ
  g = c.args.backsight.y

  abbrev a : ℤ
  a = c.args.angle.x

  abbrev h : ℤ
  h = c.args.angle.y

  abbrev Γ : Env
  Γ = env (b ∷ g ∷ a ∷ h ∷ []) (ONE ∷ ONE ∷ ONE ∷ ONE ∷ []) (c.requires.pair.first, (c.requires.pair.second, (c.requires.pair_2.first, (c.requires.pair_2.second, tt))))

  is_along : held (held (held b *ℤ held a) -ℤ held (held g *ℤ held h)) ≡ b *ℤ a -ℤ g *ℤ h
  is_along = by_machine Γ (search machine depth 20) (search machine depth 20) tt

  is_aside : held (held (held g *ℤ held a) +ℤ held (held b *ℤ held h)) ≡ g *ℤ a +ℤ b *ℤ h
  is_aside = by_machine Γ (search machine depth 20) (search machine depth 20) tt

pub overflow_sub-b : goal.overflow_sub-b
overflow_sub-b c = fits_machine (Γ (goal.at.overflow_sub-b c).Start) (search machine depth 20) tt

pub near_one-requires : goal.near_one-requires
near_one-requires c = let p = c.requires in search (difference, product, p.pair.first, p.pair.second, p.pair_2.first, p.pair_2.second)

pub overflow_mul-g-2 : goal.overflow_mul-g-2
overflow_mul-g-2 c = fits_machine (Γ (goal.at.overflow_mul-g-2 c).Start) (search machine depth 20) tt

pub overflow_mul-b-2 : goal.overflow_mul-b-2
overflow_mul-b-2 c = fits_machine (Γ (goal.at.overflow_mul-b-2 c).Start) (search machine depth 20) tt

pub overflow_add-g : goal.overflow_add-g
overflow_add-g c = fits_machine (Γ (goal.at.overflow_add-g c).Start) (search machine depth 20) tt

pub near_one-requires-2 : goal.near_one-requires-2
near_one-requires-2 c = let p = c.requires in search (sum, product, p.pair.first, p.pair.second, p.pair_2.first, p.pair_2.second)

pub returns : goal.returns
unfolding turned
returns c =
    let s = (goal.at.returns c).Start in
    let x = to_z-of_z {w = w64} (record { sfits = c.near_one.type_inv }) ∙ c.near_one.ensures ∙ ap (λ (z : ℤ). near z ONE) (is_along s) in
    let y = to_z-of_z {w = w64} (record { sfits = c.near_one-2.type_inv }) ∙ c.near_one-2.ensures ∙ ap (λ (z : ℤ). near z ONE) (is_aside s) in
    rw (x, y)
