-- `joins::close` meets its contract: the difference of two small numbers fits 64 bits.
use Prim.Native.Nat.{◌^◌}
use mathlib.Core.List.{[], ◌∷◌}
use mathlib.Core.Path.{◌≡◌, ap, ◌∙◌}
use native.Mathlib.Omega.{arith}
use lib.Dec.{leb}
use lib.IntN.{nat_abs, ◌-ℤ◌}
use mir.Syntax.{w64}
use mir.Val.{to_z, of_z}
use Rattle.integers.proofs.Machine.{Env, env, by_machine, fits_machine, machine}
use Rattle.joins.proofs.close.Goals.{Start}
use Rattle.joins.proofs.close.Goals as goal

abbrev Γ : Start → Env
Γ c = env (c.args.a ∷ c.args.b ∷ []) (2 ^ 31 ∷ 2 ^ 31 ∷ []) (omega (arith, c.requires.small), (omega (arith, c.requires.small_2), tt))

pub overflow_sub-a : goal.overflow_sub-a
overflow_sub-a c = fits_machine (Γ c) (search machine depth 20) tt

pub returns : goal.returns
returns c =
    let s = c.before in
    let same : to_z w64 (of_z w64 (to_z w64 (of_z w64 s.args.a) -ℤ to_z w64 (of_z w64 s.args.b))) ≡ s.args.a -ℤ s.args.b
    = by_machine (Γ s) (search machine depth 20) (search machine depth 20) tt in
    ap (λ d. leb d s.args.n) (c.magnitude.ensures ∙ ap nat_abs same)
