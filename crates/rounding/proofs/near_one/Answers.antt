-- `rounding::near_one` meets its contract: near(n, 2h) is n + h over 2h, rounded down.
use mathlib.Core.Path.{◌∙◌, ap}
use mathlib.Core.List.{[], ◌∷◌}
use Prim.Native.Nat.{◌^◌}
use native.Mathlib.Omega.{arith}
use mir.Syntax.{w64}
use mir.Facts.{to_z-of_z}
use Rattle.integers.specs.Floor.{floor_div}
use Rattle.integers.proofs.Machine.{Env, env, machine, fits_machine, by_machine}
use Rattle.rounding.proofs.Quotients.{near_shift}
use Rattle.rounding.proofs.near_one.Goals.{Start}
use Rattle.rounding.proofs.near_one.Goals as goal

abbrev Γ : Start → Env
Γ c = env (c.args.n ∷ []) (2 ^ 62 ∷ []) (omega arith, tt)

pub overflow_add-n : goal.overflow_add-n
overflow_add-n c = fits_machine (Γ c) (search machine depth 20) tt

pub returns : goal.returns
returns c =
    to_z-of_z {w = w64} (record { sfits = c.floor_2_30.type_inv })
    ∙ c.floor_2_30.ensures
    ∙ ap (λ x. floor_div x (2 ^ 30)) (by_machine (Γ c.before) (search machine depth 20) (search machine depth 20) tt)
    ∙ near_shift c.args.n
