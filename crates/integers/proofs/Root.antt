-- The whole square root: the number whose square is at most n while the square of one more is above n. A digit of base 4 keeps that, so `root` has it;
-- and squares grow, so no other number has it.
use Rattle.std.proofs.Common.{◌≡◌, ℕ, zero, suc, ◌+◌, ◌*◌, ◌/◌, ◌<◌, ◌≤◌, Bool, true, false, leb, refl, subst, le_refl, lt_of_le_of_lt, mul_assoc, add-mul, mul-add, mul_left_comm, add-one, arith, leb-false, leb-true}
use Rattle.integers.specs.Root.{IsRoot, one_more_if, next_digit, root_within, root}
use Rattle.integers.proofs.Abs.{<-square}

pub square_next : (r : ℕ) → (r + 1) * (r + 1) ≡ r * r + 2 * r + 1
square_next r = omega (arith, add-mul r 1 (r + 1), mul-add r r 1)

square_double : (r : ℕ) → (2 * r) * (2 * r) ≡ 4 * (r * r)
square_double r = omega (arith, mul_assoc 2 r (2 * r), mul_left_comm r 2 r)

-- ---- `root` is the root

next_digit_lem : (n r : ℕ) → IsRoot (n / 4) r → IsRoot n (next_digit n r)
unfolding next_digit one_more_if
next_digit_lem n r i = go (leb ((2 * r + 1) * (2 * r + 1)) n) refl
  where
    odd : (2 * r + 1) * (2 * r + 1) ≡ 4 * (r * r) + 4 * r + 1
    odd = omega (arith, square_next (2 * r), square_double r)

    go : (b : Bool) → leb ((2 * r + 1) * (2 * r + 1)) n ≡ b → IsRoot n (one_more_if b (2 * r))
    go true e =
        subst (IsRoot n) (add-one (2 * r))
        (record {
          low = leb-true ((2 * r + 1) * (2 * r + 1)) n e;
          high = omega (arith, odd, square_next (2 * r + 1), i.high, square_next r);
        })
    go false e =
        record {
          low = omega (arith, square_double r, i.low);
          high = leb-false ((2 * r + 1) * (2 * r + 1)) n e;
        }

within_is : (k n : ℕ) → n ≤ k → IsRoot n (root_within k n)
unfolding root_within
within_is zero zero h = record { low = omega arith; high = omega arith }
within_is zero (suc n) h = absurd (omega arith)
within_is (suc k) zero h = record { low = omega arith; high = omega arith }
within_is (suc k) (suc n) h = next_digit_lem (suc n) (root_within k (suc n / 4)) (within_is k (suc n / 4) (omega arith))

pub root_is : (n : ℕ) → IsRoot n (root n)
unfolding root
root_is n = within_is n n (le_refl n)

-- ---- the root against another number: m ≤ root n where m² ≤ n, and root n < m where n < m²

pub square→≤-root : {m n : ℕ} → m * m ≤ n → m ≤ root n
square→≤-root {m} {n} h = let k : m < root n + 1 = <-square (lt_of_le_of_lt h (root_is n).high) in omega arith

pub square→root-< : {m n : ℕ} → n < m * m → root n < m
square→root-< {n = n} h = <-square (lt_of_le_of_lt (root_is n).low h)

-- ---- no other number is the root

pub root_unique : {n r : ℕ} → IsRoot n r → r ≡ root n
root_unique {n} {r} i =
    let a : r ≤ root n = square→≤-root i.low in
    let b : root n < r + 1 = square→root-< i.high in
    omega arith
