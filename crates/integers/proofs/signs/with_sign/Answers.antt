-- `integers::signs::with_sign` meets its contract: any sign but 0 negates, and what is negated fits.
use Rattle.std.proofs.Common.{◌^◌, [], ◌∷◌, neg_ℤ, sym, ap, ◌∙◌, to_z-of_z}
use Rattle.integers.proofs.Machine.{Env, env, machine, fits_machine, by_machine}
use Rattle.integers.specs.Signs.{with_sign}
use Rattle.integers.proofs.Signed.{neg_with_sign}
use Rattle.integers.proofs.signs.with_sign.Goals.{Start}
use Rattle.integers.proofs.signs.with_sign.Goals as goal

abbrev Γ : Start → Env
Γ c = env (c.args.z ∷ []) (2 ^ 32 ∷ []) (c.requires, tt)

pub overflow_sub-result : goal.overflow_sub-result
overflow_sub-result c = fits_machine (Γ c.before) (search machine depth 20) tt

pub returns-then-negative-eq0 : goal.returns-then-negative-eq0
unfolding with_sign
returns-then-negative-eq0 c = to_z-of_z c.before.ranges.z ∙ ap (λ n. with_sign n c.before.args.z) (sym c.if-negative-eq0.true)

pub returns-else-negative-eq0 : goal.returns-else-negative-eq0
returns-else-negative-eq0 c =
    by_machine (Γ c.before) {b = neg_ℤ c.before.args.z} (search machine depth 20) (search machine depth 20) tt
    ∙ neg_with_sign {sign = c.before.args.negative} c.before.args.z c.if-negative-eq0.false
