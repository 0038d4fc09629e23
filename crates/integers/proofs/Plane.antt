-- The triangle inequality over whole numbers. By Lagrange's identity |g·f|² ≤ |g|² |f|², so where |g| < n and |f| ≤ m,
-- |g + f|² = |g|² + 2 g·f + |f|² is below n² + 2 n m + m².
use Rattle.std.proofs.Common.{◌≡◌, ℕ, ◌+◌, ◌*◌, ◌<◌, ◌≤◌, [], ◌∷◌, ℤ, pos, ◌+ℤ◌, ◌-ℤ◌, ◌*ℤ◌, neg_ℤ, nat_abs, ◌≤ℤ◌, sym, ap, ◌∙◌, ap₂, subst₂, le_trans, le_of_eq, le_of_lt, mul-le-mul, arith}
use native.Mathlib.Decide.{dec_lt}
use lib.IntN.{ -ℤ-+ℤ_cancel}
use Rattle.integers.specs.Plane.{squared}
use Rattle.integers.proofs.Order.{order, sum, multiple, parts, ≤ℤ_by, ≤-pos, 0≤-square}
use Rattle.integers.proofs.Abs.{square_nat_abs, square-≤, ≤-square, nat_abs_neg}
use Rattle.integers.proofs.Written.{writing, identity, identityℕ}

pub squared_is : (x y : ℤ) → pos (squared x y) ≡ x *ℤ x +ℤ y *ℤ y
unfolding squared
squared_is x y = ap₂ ◌+ℤ◌ (sym (square_nat_abs x)) (sym (square_nat_abs y))

pub squared_neg : (x y : ℤ) → squared (neg_ℤ x) (neg_ℤ y) ≡ squared x y
unfolding squared
squared_neg x y = ap₂ (λ a b. a * a + b * b) (nat_abs_neg x) (nat_abs_neg y)

pub squared-≤ : (x y : ℤ) {m n : ℕ} → nat_abs x ≤ m → nat_abs y ≤ n → squared x y ≤ m * m + n * n
unfolding squared
squared-≤ x y h k = omega (arith, square-≤ h, square-≤ k)

-- turning by (c, s) multiplies lengths
pub squared_turned : (c s u v : ℤ) → squared (c *ℤ u -ℤ s *ℤ v) (s *ℤ u +ℤ c *ℤ v) ≡ squared c s * squared u v
squared_turned c s u v =
    ap
    nat_abs
    (squared_is (c *ℤ u -ℤ s *ℤ v) (s *ℤ u +ℤ c *ℤ v)
    ∙ identity {ρ = c ∷ s ∷ u ∷ v ∷ []} {b = (c *ℤ c +ℤ s *ℤ s) *ℤ (u *ℤ u +ℤ v *ℤ v)} (search writing depth 20) (search writing depth 20) tt
    ∙ sym (ap₂ ◌*ℤ◌ (squared_is c s) (squared_is u v)))

pub squared_multiple : (k : ℕ) (x y : ℤ) → squared (pos k *ℤ x) (pos k *ℤ y) ≡ k * k * squared x y
squared_multiple k x y =
    ap
    nat_abs
    (squared_is (pos k *ℤ x) (pos k *ℤ y)
    ∙ identity {ρ = pos k ∷ x ∷ y ∷ []} {b = pos (k * k) *ℤ (x *ℤ x +ℤ y *ℤ y)} (search writing depth 20) (search writing depth 20) tt
    ∙ ap (λ n. pos (k * k) *ℤ n) (sym (squared_is x y)))

-- |g·f| ≤ n m where |g|² ≤ n² and |f|² ≤ m²
pub dot-≤ : (gx gy fx fy : ℤ) (n m : ℕ) → squared gx gy ≤ n * n → squared fx fy ≤ m * m → nat_abs (gx *ℤ fx +ℤ gy *ℤ fy) ≤ n * m
dot-≤ gx gy fx fy n m hg hf = ≤-square (le_trans lagrange (le_trans (mul-le-mul hg hf) (le_of_eq regroup)))
  where
    lagrange : nat_abs (gx *ℤ fx +ℤ gy *ℤ fy) * nat_abs (gx *ℤ fx +ℤ gy *ℤ fy) ≤ squared gx gy * squared fx fy
    lagrange =
        ≤-pos
        (subst₂
        (λ x y. x ≤ℤ y)
        (square_nat_abs (gx *ℤ fx +ℤ gy *ℤ fy))
        (sym (ap₂ ◌*ℤ◌ (squared_is gx gy) (squared_is fx fy)))
        (≤ℤ_by
        (0≤-square (gx *ℤ fy -ℤ gy *ℤ fx))
        (identity {ρ = gx ∷ gy ∷ fx ∷ fy ∷ []} (search writing depth 20) (search writing depth 20) tt)))

    regroup : (n * n) * (m * m) ≡ (n * m) * (n * m)
    regroup = identityℕ {ρ = pos n ∷ pos m ∷ []} (search writing depth 20) (search writing depth 20) tt

-- |g| < n and |f| ≤ m give |g + f| < n + m
pub sum_below : (gx gy fx fy : ℤ) (n m : ℕ) → squared gx gy < n * n → squared fx fy ≤ m * m → squared (gx +ℤ fx) (gy +ℤ fy) < (n + m) * (n + m)
sum_below gx gy fx fy n m hg hf = omega (order, whole, dot, expanded, sum (pos g) (pos 2 *ℤ d), sum (pos g +ℤ pos 2 *ℤ d) (pos f), multiple 2 d, parts d)
  where
    g : ℕ
    g = squared gx gy

    f : ℕ
    f = squared fx fy

    d : ℤ
    d = gx *ℤ fx +ℤ gy *ℤ fy

    dot : nat_abs (gx *ℤ fx +ℤ gy *ℤ fy) ≤ n * m
    dot = dot-≤ gx gy fx fy n m (le_of_lt hg) hf

    whole : pos (squared (gx +ℤ fx) (gy +ℤ fy)) ≡ pos (squared gx gy) +ℤ pos 2 *ℤ (gx *ℤ fx +ℤ gy *ℤ fy) +ℤ pos (squared fx fy)
    whole =
        squared_is (gx +ℤ fx) (gy +ℤ fy)
        ∙ identity {ρ = gx ∷ gy ∷ fx ∷ fy ∷ []} {b = (gx *ℤ gx +ℤ gy *ℤ gy) +ℤ pos 2 *ℤ (gx *ℤ fx +ℤ gy *ℤ fy) +ℤ (fx *ℤ fx +ℤ fy *ℤ fy)} (search writing depth 20) (search writing depth 20) tt
        ∙ ap₂ (λ x y. x +ℤ pos 2 *ℤ (gx *ℤ fx +ℤ gy *ℤ fy) +ℤ y) (sym (squared_is gx gy)) (sym (squared_is fx fy))

    expanded : (n + m) * (n + m) ≡ n * n + 2 * (n * m) + m * m
    expanded = identityℕ {ρ = pos n ∷ pos m ∷ []} (search writing depth 20) (search writing depth 20) tt

-- |e − f| < n and |f| ≤ m give |e| < n + m.
pub triangle_above : (ex ey fx fy : ℤ) (n m : ℕ) → squared (ex -ℤ fx) (ey -ℤ fy) < n * n → squared fx fy ≤ m * m → squared ex ey < (n + m) * (n + m)
triangle_above ex ey fx fy n m h k =
    subst₂
    (λ x y. squared x y < (n + m) * (n + m))
    (-ℤ-+ℤ_cancel ex fx)
    (-ℤ-+ℤ_cancel ey fy)
    (sum_below (ex -ℤ fx) (ey -ℤ fy) fx fy n m h k)

-- a ≤ |e|, |f| ≤ m and m + n ≤ a give n ≤ |e − f|.
pub triangle_below : (ex ey fx fy : ℤ) (a m n : ℕ) → a * a ≤ squared ex ey → squared fx fy ≤ m * m → m + n ≤ a → n * n ≤ squared (ex -ℤ fx) (ey -ℤ fy)
triangle_below ex ey fx fy a m n h k l = go (dec_lt (squared (ex -ℤ fx) (ey -ℤ fy)) (n * n))
  where
    go : Dec (squared (ex -ℤ fx) (ey -ℤ fy) < n * n) → n * n ≤ squared (ex -ℤ fx) (ey -ℤ fy)
    go (yes s) = absurd (omega (arith, triangle_above ex ey fx fy n m s k, square-≤ {m = n + m} {n = a} (omega arith)))
    go (no s) = omega arith
