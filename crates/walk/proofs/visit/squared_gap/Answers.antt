-- `walk::visit::squared_gap` meets its contract: the difference is below 2^29, so its square fits.
use mathlib.Core.Path.{◌≡◌, sym, ◌∙◌, ap, subst}
use mathlib.Core.List.{[], ◌∷◌}
use Prim.Native.Nat.{◌+◌, ◌*◌, ◌≤◌}
use native.Mathlib.Omega.{arith}
use native.Mathlib.Nat.{mul-le-mul}
use lib.Dec.{T}
use lib.IntN.{ℤ, pos, nat_abs, ◌-ℤ◌, ◌*ℤ◌}
use lib.Signed.{non_neg}
use mir.Syntax.{w64}
use mir.Val.{Fits}
use Rattle.integers.proofs.Abs.{nat_abs--, square_nat_abs}
use Rattle.integers.proofs.Machine.{Env, env, machine, fits_machine, by_machine}
use Rattle.integers.proofs.Held.{held}
use Rattle.model.specs.Acceptance.{frame}
use Rattle.elements.specs.Extent.{widest_position}
use Rattle.walk.specs.Search.{widest_square}
use Rattle.walk.proofs.visit.squared_gap.Goals.{Start}
use Rattle.walk.proofs.visit.squared_gap.Goals as goal

module _ (c : Start) where
  abbrev Γ : Env
  Γ = env (c.args.a ∷ c.args.b ∷ []) (frame ∷ widest_position ∷ []) (c.requires.0, (c.requires.1, tt))

  abbrev gap : ℤ
  gap = c.args.a -ℤ c.args.b

  abbrev computed : ℤ
  computed = held (held c.args.a -ℤ held c.args.b)

  is_square : held (computed *ℤ computed) ≡ pos (nat_abs gap * nat_abs gap)
  is_square = by_machine Γ {b = gap *ℤ gap} (search machine depth 20) (search machine depth 20) tt ∙ square_nat_abs gap

  square_small : nat_abs gap * nat_abs gap ≤ widest_square
  square_small =
      let g : nat_abs gap ≤ frame + widest_position = omega (arith, nat_abs-- c.args.a c.args.b) in
      omega (arith, mul-le-mul g g)

pub overflow_sub-d : goal.overflow_sub-d
overflow_sub-d c = fits_machine (Γ c) (search machine depth 20) tt

pub overflow_mul-result : goal.overflow_mul-result
overflow_mul-result c = fits_machine (Γ c) (search machine depth 20) tt

pub overflow_cast-result : goal.overflow_cast-result
overflow_cast-result c = subst (λ (z : ℤ). T (non_neg z) × Fits w64 (nat_abs z)) (sym (is_square c)) (tt, record { fits = omega (arith, square_small c) })

pub returns : goal.returns
returns c = let e = ap nat_abs (is_square c) in record { value = e; small = omega (arith, e, square_small c) }
