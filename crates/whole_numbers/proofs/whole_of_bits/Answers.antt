-- `whole_numbers::whole_of_bits` meets its contract: each way out is a case of the exponent, and a law says what the float then is.
use native.Mathlib.Omega.{arith}
use mathlib.Core.Bool.{false}
use mathlib.Core.Path.{◌∙◌}
use Rattle.whole_numbers.proofs.WholeNumbers.{short_none, short_small, held_is, not_finite, zero_whole, subnormal_none, below_one_none, one_positive, ones_small, ones_short, left_over_none, shifted_small, shifted_short, large_beyond}
use Rattle.whole_numbers.proofs.whole_of_bits.Goals as goal

pub returns-then-exponent-eq-NOT_FINITE : goal.returns-then-exponent-eq-NOT_FINITE
returns-then-exponent-eq-NOT_FINITE c = short_none (not_finite _ (omega (arith, c.if-exponent-eq-NOT_FINITE.true)))

pub returns-then-fraction-eq0 : goal.returns-then-fraction-eq0
returns-then-fraction-eq0 c = short_small false 0 (omega arith) (zero_whole _ c.if-exponent-eq0.true (omega (arith, c.if-fraction-eq0.true)))

pub returns-then-exponent-eq0 : goal.returns-then-exponent-eq0
returns-then-exponent-eq0 c = short_none (subnormal_none _ c.if-exponent-eq0.true (λ e. omega (arith, c.if-fraction-eq0.false)))

pub returns-then-exponent-lt-OF_ONE : goal.returns-then-exponent-lt-OF_ONE
returns-then-exponent-lt-OF_ONE c = short_none (below_one_none _ (omega (arith, c.if-exponent-eq0.false)) c.if-exponent-lt-OF_ONE.true)

pub nonzero_rem-significand : goal.nonzero_rem-significand
nonzero_rem-significand c = one_positive _ c.if-exponent-lt-OF_ONE.false c.if-exponent-lt-OF_UNITS.true

pub nonzero_div-significand : goal.nonzero_div-significand
nonzero_div-significand c = one_positive _ c.if-exponent-lt-OF_ONE.false c.if-exponent-lt-OF_UNITS.true

pub negated_if-requires : goal.negated_if-requires
negated_if-requires c = ones_small _ c.if-exponent-lt-OF_ONE.false c.if-exponent-lt-OF_UNITS.true

pub returns-then-significand-one-eq0 : goal.returns-then-significand-one-eq0
returns-then-significand-one-eq0 c =
    held_is (record { sfits = c.negated_if.type_inv }) c.negated_if.ensures ∙ ones_short _ c.if-exponent-lt-OF_ONE.false c.if-exponent-lt-OF_UNITS.true c.if-significand-one-eq0.true

pub returns-then-exponent-lt-OF_UNITS : goal.returns-then-exponent-lt-OF_UNITS
returns-then-exponent-lt-OF_UNITS c = short_none (left_over_none _ c.if-exponent-lt-OF_ONE.false c.if-exponent-lt-OF_UNITS.true c.if-significand-one-eq0.false)

pub negated_if-requires-then-exponent-lt-OF_BEYOND : goal.negated_if-requires-then-exponent-lt-OF_BEYOND
negated_if-requires-then-exponent-lt-OF_BEYOND c = shifted_small _ c.if-exponent-lt-OF_UNITS.false c.if-exponent-lt-OF_BEYOND.true

pub returns-then-exponent-lt-OF_BEYOND : goal.returns-then-exponent-lt-OF_BEYOND
returns-then-exponent-lt-OF_BEYOND c =
    held_is (record { sfits = c.negated_if-then-exponent-lt-OF_BEYOND.type_inv }) c.negated_if-then-exponent-lt-OF_BEYOND.ensures ∙ shifted_short _ c.if-exponent-lt-OF_UNITS.false c.if-exponent-lt-OF_BEYOND.true

pub returns : goal.returns
returns c = large_beyond _ c.if-exponent-lt-OF_BEYOND.false (omega (arith, c.if-exponent-eq-NOT_FINITE.false))
