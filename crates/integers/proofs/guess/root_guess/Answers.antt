-- `integers::guess::root_guess` is safe, and its result below 2^32: each factor is below a power of two, and so is each product.
use Rattle.std.proofs.Common.{ℕ, ◌+◌, ◌*◌, ◌/◌, ◌%◌, ◌^◌, ◌<◌, T, leb, lt_of_le_of_lt, le_of_lt, mul-le-mul_left, arith, shl_lt, w64, Fits}
use lib.Pow.{shr_le}
use mir.Facts.{Fits-bits}
use Rattle.integers.proofs.guess.root_guess.Goals as goal

product-< : {a b : ℕ} (i j : ℕ) → a < 2 ^ i → b < 2 ^ j → a * b < 2 ^ (i + j)
product-< {a} i j h k = lt_of_le_of_lt (mul-le-mul_left a (le_of_lt k)) (shl_lt i j h)

product_fits : {a b : ℕ} (i j : ℕ) → T (leb (i + j) 64) → a < 2 ^ i → b < 2 ^ j → Fits w64 (a * b)
product_fits i j t h k = Fits-bits (i + j) t (product-< i j h k)

-- `slope` and `y`, of a row f
module _ (f u : ℕ) (h : u < 2 ^ 20) where
  slope-< : f / 2 ^ 20 % 2 ^ 20 + u * (f % 2 ^ 20) / 2 ^ 20 < 2 ^ 21
  slope-< = omega (arith, product-< {a = u} {b = f % 2 ^ 20} 20 20 h (omega arith))

  y-< : f < 2 ^ 64 → f / 2 ^ 40 + u * (f / 2 ^ 20 % 2 ^ 20 + u * (f % 2 ^ 20) / 2 ^ 20) / 2 ^ 19 < 2 ^ 25
  y-< k = omega (arith, product-< 20 21 h slope-<)

pub overflow_mul-slope : goal.overflow_mul-slope
overflow_mul-slope c = product_fits 20 20 tt (omega arith) (omega arith)

pub overflow_add-slope : goal.overflow_add-slope
overflow_add-slope c = Fits-bits 21 tt (slope-< c.row-fields.result _ (omega arith))

pub overflow_mul-y : goal.overflow_mul-y
overflow_mul-y c = product_fits 20 21 tt (omega arith) (slope-< c.row-fields.result _ (omega arith))

pub overflow_add-y : goal.overflow_add-y
overflow_add-y c = Fits-bits 25 tt (y-< c.row-fields.result _ (omega arith) c.row-fields.type_inv)

pub overflow_mul-s : goal.overflow_mul-s
overflow_mul-s c = product_fits 32 25 tt (omega arith) (y-< c.row-fields.result _ (omega arith) c.row-fields.type_inv)

pub overflow_mul-s-2 : goal.overflow_mul-s-2
overflow_mul-s-2 c = product_fits 32 32 tt (omega arith) (omega arith)

pub overflow_mul-t : goal.overflow_mul-t
overflow_mul-t c = let b = c.before in product_fits 32 25 tt (omega arith) (y-< b.row-fields.result _ (omega arith) b.row-fields.type_inv)

pub overflow_add-t : goal.overflow_add-t
overflow_add-t c = omega (arith, overflow_mul-t c)

pub returns : goal.returns
returns c = lt_of_le_of_lt (shr_le _ _) (omega arith)
