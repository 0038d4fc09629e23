-- `comparisons::said::float_is_at` meets its contract: only a nan differs from itself.
use mathlib.Core.Path.{◌≡◌, refl, sym, ap, ◌∙◌, subst}
use mathlib.Core.Bool.{true, false, not}
use lib.Dec.{T}
use lib.Ieee.{Float, nan, inf, fin, is_nan, ne}
use lib.Ieee.Compare.{differs_from_itself, nan_differs}
use Rattle.comparisons.specs.Said.{float_is_at}
use Rattle.comparisons.proofs.said.float_is_at.Goals as goal

a_nan : (x : Float) → ne x x ≡ true → is_nan x ≡ true
unfolding is_nan
a_nan x h = ap is_nan (differs_from_itself x (subst T (sym h) tt))

no_nan : (x : Float) → ne x x ≡ false → is_nan x ≡ false
unfolding is_nan
no_nan nan h = sym nan_differs ∙ h
no_nan (inf s) h = refl
no_nan (fin s m e) h = refl

pub returns-then-x : goal.returns-then-x
unfolding float_is_at
returns-then-x c = rw (a_nan c.args.x c.if-x.true)

pub float_to_bits-result : goal.float_to_bits-result
float_to_bits-result c = subst T (sym (ap not (no_nan c.args.x c.if-x.false))) tt

pub returns : goal.returns
unfolding float_is_at
returns c = rw (no_nan c.args.x c.if-x.false, c.u64_at.ensures)
