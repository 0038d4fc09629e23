-- `elements::series::spiral_angle` meets its contract: a long division, whose first step leaves a remainder below the divisor.
use mathlib.Core.Path.{◌≡◌, ◌∙◌, ap}
use Prim.Native.Nat.{ℕ, ◌+◌, ◌*◌, ◌/◌, ◌%◌, ◌^◌, ◌<◌}
use native.Mathlib.Omega.{arith}
use native.Mathlib.Nat.{mod-lt, div-lt_iff_lt-mul}
use Rattle.integers.proofs.Floor.{long_division}
use Rattle.model.specs.Rounding.{ONE}
use Rattle.elements.proofs.series.spiral_angle.Goals.{Start}
use Rattle.elements.proofs.series.spiral_angle.Goals as goal

module _ (c : Start) where
  abbrev square : ℕ
  square = c.args.l * c.args.l

  abbrev d : ℕ
  d = c.args.divisor

  rest_small : square * 32768 % d < d
  rest_small = mod-lt (square * 32768) {m = d} (omega arith)

  result : square * 32768 / d * 32768 + (square * 32768 % d * 32768 + c.args.half) / d ≡ (ONE * square + c.args.half) / d
  result = long_division (square * 32768) 32768 c.args.half {d = d} (omega arith) ∙ ap (λ x. x / d) (omega arith)

  result_fits : (ONE * square + c.args.half) / d < 2 ^ 64
  result_fits = (div-lt_iff_lt-mul {k = d} (omega arith)).1 (omega arith)

pub overflow_mul-rest : goal.overflow_mul-rest
overflow_mul-rest c = omega (arith, rest_small c)

pub overflow_mul-result : goal.overflow_mul-result
overflow_mul-result c = omega (arith, result c, result_fits c)

pub overflow_add-result : goal.overflow_add-result
overflow_add-result c = omega (arith, rest_small c)

pub overflow_add-result-2 : goal.overflow_add-result-2
overflow_add-result-2 c = omega (arith, result c, result_fits c)

pub returns : goal.returns
returns c = result c
