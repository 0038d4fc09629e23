-- `elements::faced` meets its contract: what is negated fits.
use mathlib.Core.Path.{sym, ◌∙◌, ap}
use mathlib.Core.List.{[], ◌∷◌}
use Prim.Native.Nat.{◌^◌}
use lib.IntN.{neg_ℤ}
use mir.Facts.{to_z-of_z}
use Rattle.integers.proofs.Machine.{Env, env, machine, fits_machine, by_machine}
use Rattle.model.specs.Series.{facing}
use Rattle.elements.proofs.faced.Goals.{Start}
use Rattle.elements.proofs.faced.Goals as goal

abbrev Γ : Start → Env
Γ c = env (c.args.z ∷ []) (2 ^ 32 ∷ []) (c.requires, tt)

pub overflow_sub-result : goal.overflow_sub-result
overflow_sub-result c = fits_machine (Γ c.before) (search machine depth 20) tt

pub returns-then-far : goal.returns-then-far
unfolding facing
returns-then-far c =
    by_machine (Γ c.before) {b = neg_ℤ c.args.z} (search machine depth 20) (search machine depth 20) tt
    ∙ ap (λ b. facing b c.args.z) (sym c.if-far.true)

pub returns-else-far : goal.returns-else-far
unfolding facing
returns-else-far c = to_z-of_z c.ranges.z ∙ ap (λ b. facing b c.args.z) (sym c.if-far.false)
