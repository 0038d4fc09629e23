-- `whole_numbers::whole_of` meets its contract: only a nan differs from itself, and any other float is that of its bits.
use mathlib.Core.Path.{◌≡◌, sym, ap, ◌∙◌, subst}
use mathlib.Core.Bool.{true, false, not}
use lib.Dec.{T}
use lib.Ieee.{Float, nan, inf, fin, binary64, is_nan, ne}
use lib.Ieee.Bits.{of_bits-to_bits}
use lib.Ieee.Compare.{differs_from_itself, nan_differs}
use Rattle.model.specs.Readings.{none, whole_of}
use Rattle.whole_numbers.specs.WholeNumbers.{short_of}
use Rattle.whole_numbers.proofs.WholeNumbers.{short_none}
use Rattle.whole_numbers.proofs.whole_of.Goals as goal

nan_none : (x : Float) → ne x x ≡ true → whole_of x ≡ none
unfolding whole_of
nan_none x h = ap whole_of (differs_from_itself x (subst T (sym h) tt))

same_no_nan : (x : Float) → ne x x ≡ false → T (not (is_nan x))
unfolding is_nan
same_no_nan nan h = subst T (sym nan_differs ∙ h) tt
same_no_nan (inf s) h = tt
same_no_nan (fin s m e) h = tt

pub returns-then-x : goal.returns-then-x
returns-then-x c = short_none (nan_none c.args.x c.if-x.true)

pub float_to_bits-x : goal.float_to_bits-x
float_to_bits-x c = same_no_nan c.args.x c.if-x.false

pub returns : goal.returns
returns c =
    c.whole_of_bits.ensures ∙ ap (λ (v : Float). short_of (whole_of v)) (of_bits-to_bits binary64 c.args.x (subst T (sym c.well_formed.0.1) tt))
