-- Absolute values: of sums, differences and products; against bounds on both sides; and against squares.
use Rattle.std.proofs.Common.{◌≡◌, ℕ, zero, suc, ◌+◌, ◌*◌, ◌^◌, ◌<◌, ◌≤◌, ℤ, pos, negsuc, ◌+ℤ◌, ◌-ℤ◌, ◌*ℤ◌, neg_ℤ, nat_abs, ◌≤ℤ◌, ◌<ℤ◌, sym, refl, ap, ◌∙◌, subst, suc-mul, mul-le-mul, pow-suc, mul-suc, arith}
use native.Mathlib.Decide.{dec_le}
use native.Mathlib.Nat.{pow-zero}
use lib.IntN.{pow, one}
use lib.Signed.{mag}
use Rattle.integers.proofs.Order.{order, sum, negation, difference, parts, <-pos}

pub nat_abs_neg : (a : ℤ) → nat_abs (neg_ℤ a) ≡ nat_abs a
nat_abs_neg (pos zero) = refl
nat_abs_neg (pos (suc k)) = refl
nat_abs_neg (negsuc k) = refl

pub nat_abs-+ : (a b : ℤ) → nat_abs (a +ℤ b) ≤ nat_abs a + nat_abs b
nat_abs-+ a b = omega (arith, sum a b, parts a, parts b, parts (a +ℤ b))

pub nat_abs-- : (a b : ℤ) → nat_abs (a -ℤ b) ≤ nat_abs a + nat_abs b
nat_abs-- a b = omega (arith, difference a b, parts a, parts b, parts (a -ℤ b))

pub nat_abs-* : (a b : ℤ) → nat_abs (a *ℤ b) ≡ nat_abs a * nat_abs b
nat_abs-* (pos a) (pos b) = refl
nat_abs-* (pos a) (negsuc b) = nat_abs_neg (pos (a * suc b))
nat_abs-* (negsuc a) (pos b) = nat_abs_neg (pos (suc a * b))
nat_abs-* (negsuc a) (negsuc b) = refl

pub nat_abs_pow : (a : ℤ) (k : ℕ) → nat_abs (pow a k) ≡ nat_abs a ^ k
unfolding pow one
nat_abs_pow a zero = sym (pow-zero (nat_abs a))
nat_abs_pow a (suc k) = nat_abs-* (pow a k) a ∙ ap (λ x. x * nat_abs a) (nat_abs_pow a k) ∙ sym (pow-suc (nat_abs a) k)

-- ---- bounds on both sides

pub nat_abs-≤ : {a : ℤ} {n : ℕ} → neg_ℤ (pos n) ≤ℤ a → a ≤ℤ pos n → nat_abs a ≤ n
nat_abs-≤ {a} {n} l h = omega (order, parts a, negation (pos n))

pub ≤-nat_abs : {a : ℤ} {n : ℕ} → nat_abs a ≤ n → (neg_ℤ (pos n) ≤ℤ a) × (a ≤ℤ pos n)
≤-nat_abs {a} {n} h = (omega (order, parts a, negation (pos n)), omega (order, parts a))

-- ---- squares

pub square_nat_abs : (a : ℤ) → a *ℤ a ≡ pos (nat_abs a * nat_abs a)
square_nat_abs (pos a) = refl
square_nat_abs (negsuc a) = refl

pub square-≤ : {m n : ℕ} → m ≤ n → m * m ≤ n * n
square-≤ h = mul-le-mul h h

pub square-< : {m n : ℕ} → m < n → m * m < n * n
square-< {m} {n} h = omega (arith, mul-le-mul h h, suc-mul m (suc m), mul-suc m m)

pub ≤-square : {m n : ℕ} → m * m ≤ n * n → m ≤ n
≤-square {m} {n} h = go (dec_le m n)
  where
    go : Dec (m ≤ n) → m ≤ n
    go (yes k) = k
    go (no k) = absurd (omega (arith, square-< {m = n} {n = m} (omega arith)))

pub <-square : {m n : ℕ} → m * m < n * n → m < n
<-square {m} {n} h = go (dec_le n m)
  where
    go : Dec (n ≤ m) → m < n
    go (yes k) = absurd (omega (arith, square-≤ k))
    go (no k) = omega arith

pub square→nat_abs-<ℕ : (a : ℤ) (n : ℕ) → (a *ℤ a) <ℤ pos (n * n) → nat_abs a < n
square→nat_abs-<ℕ a n h = <-square (<-pos (subst (λ x. x <ℤ pos (n * n)) (square_nat_abs a) h))

-- ---- the magnitude, by which a signed range is stated

pub mag-≤ : (a : ℤ) → mag a ≤ nat_abs a
mag-≤ a = omega (arith, parts a)
