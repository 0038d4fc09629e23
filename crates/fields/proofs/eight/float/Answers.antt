-- `fields::eight::float` meets its contract: the test is that of a nan's bits, and 0 / 0 is a nan.
use mathlib.Core.Path.{◌≡◌, refl, sym, ap, ◌∙◌, subst}
use mathlib.Core.Bool.{true, not}
use Prim.Native.Nat.{ℕ}
use lib.Dec.{T}
use lib.Ieee.{Float, nan, inf, fin, binary64, is_nan, nan_bits, of_bits, div}
use lib.Ieee.Bits.{nan_bits_is}
use Rattle.fields.proofs.eight.float.Goals as goal

is-nan : (v : Float) → is_nan v ≡ true → nan ≡ v
unfolding is_nan
is-nan nan h = refl
is-nan (inf s) h = cc
is-nan (fin s m e) h = cc

nan_of_bits : (n : ℕ) → nan_bits binary64 n ≡ true → nan ≡ of_bits binary64 n
nan_of_bits n h = is-nan (of_bits binary64 n) (sym (nan_bits_is binary64 n) ∙ h)

zero_by_zero : div binary64 (of_bits binary64 0) (of_bits binary64 0) ≡ nan
unfolding div of_bits
zero_by_zero = refl

pub returns-then-exponent-fraction : goal.returns-then-exponent-fraction
unfolding nan_bits
returns-then-exponent-fraction c = zero_by_zero ∙ nan_of_bits c.args.bits c.if-exponent-fraction.true

pub float_from_bits-result : goal.float_from_bits-result
unfolding nan_bits
float_from_bits-result c = subst T (sym (ap not c.if-exponent-fraction.false)) tt
