-- u and v lie within 1 grain of their three-term sums. Both are near(x·F, k·ONE), with x = 100z and k = 1 for u, and x = near(100z·t, ONE) for v;
-- one statement over x and k serves both, and one over the numbers of F serves arc and spiral.
use mathlib.Core.Path.{◌≡◌, ◌∙◌, ap}
use mathlib.Core.List.{[], ◌∷◌}
use Prim.Native.Nat.{ℕ, ◌+◌, ◌*◌, ◌^◌, ◌≤◌, ◌<◌}
use native.Mathlib.Omega.{arith}
use native.Mathlib.Nat.{mul-le-mul_left, mul-pos}
use lib.IntN.{ℤ, pos, nat_abs, ◌-ℤ◌, ◌*ℤ◌, +ℤ_invr}
use Rattle.integers.proofs.Ring.{one-*ℤ}
use Rattle.integers.proofs.Abs.{nat_abs-*}
use Rattle.integers.proofs.Identity.{var, ◌⊖◌, ◌⊗◌}
use Rattle.integers.proofs.Written.{writing, identityℕ}
use Rattle.model.specs.Acceptance.{longest_element}
use Rattle.model.specs.Rounding.{ONE, near}
use Rattle.model.specs.Series.{factor, F, square_of, Fraction, fraction, angle_of}
use Rattle.model.specs.Bound.{Within2, along_sum, aside_sum}
use Rattle.rounding.proofs.Sizes.{twice_error}
use Rattle.elements.proofs.Errors.{sized, plain, 2', 4', ONE', ◌⊞◌, ◌⊠◌, ◌·◌, error_by}
use Rattle.elements.proofs.Angle.{Turn, angle_error}
use Rattle.elements.proofs.Factor.{ThreeTerm, Close, F_close}

-- k·y·D times the error of v = near(x·G, k·ONE) against X/y · S/(k·D): 2·ONE times it is y·D·δ₁ + 2·D·G·ε + 2·X·δ₀,
-- where ε is y times the error of x against X/y, δ₀ is D times the error of G, and δ₁ is what the rounding of v leaves, doubled.
product_error : (k y D : ℕ) (x X G S v : ℤ) →
    Close G S D →
    nat_abs (pos 2 *ℤ (pos (k * ONE) *ℤ v -ℤ x *ℤ G)) ≤ k * ONE →
    2 * (ONE * nat_abs (pos y *ℤ x -ℤ X) + nat_abs X) ≤ k * y * ONE →
    nat_abs (pos (k * y * D) *ℤ v -ℤ X *ℤ S) ≤ k * y * D
product_error k y D x X G S v close h₁ small =
    let ρ = pos k ∷ pos y ∷ pos D ∷ x ∷ X ∷ G ∷ S ∷ v ∷ [] in
    let k' = var 0 in
    let y' = var 1 in
    let D' = var 2 in
    let x' = var 3 in
    let X' = var 4 in
    let G' = var 5 in
    let S' = var 6 in
    let v' = var 7 in
    let |G| = sized ρ G' ONE close.range in
    let ε = plain ρ (y' ⊗ x' ⊖ X') in
    let δ₀ = sized ρ (D' ⊗ G' ⊖ ONE' ⊗ S') D close.error in
    let δ₁ = sized ρ (2' ⊗ (k' ⊗ ONE' ⊗ v' ⊖ x' ⊗ G')) (k * ONE) h₁ in
    error_by (2 * ONE) (k' ⊗ y' ⊗ D' ⊗ v' ⊖ X' ⊗ S')
    (plain ρ (y' ⊗ D') ⊠ δ₁ ⊞ 2 · (plain ρ D' ⊠ |G| ⊠ ε) ⊞ 2 · (plain ρ X' ⊠ δ₀))
    (omega arith)
    tt
    (omega (arith, mul-le-mul_left D small))

-- 4·q times the error of w = near(n·t, ONE) against n·φ: 2^29 times it is q·δ₁ + n·δ₀,
-- where δ₀ and δ₁ are what the roundings of t and w leave, doubled.
width_error : (q n : ℕ) (m t w : ℤ) →
    2 * n ≤ ONE →
    nat_abs (pos 2 *ℤ (pos q *ℤ t -ℤ pos ONE *ℤ m)) ≤ q →
    nat_abs (pos 2 *ℤ (pos ONE *ℤ w -ℤ pos n *ℤ t)) ≤ ONE →
    nat_abs (pos 4 *ℤ (pos q *ℤ w -ℤ pos n *ℤ m)) ≤ 3 * q
width_error q n m t w small h₀ h₁ =
    let ρ = pos q ∷ pos n ∷ m ∷ t ∷ w ∷ [] in
    let q' = var 0 in
    let n' = var 1 in
    let m' = var 2 in
    let t' = var 3 in
    let w' = var 4 in
    let δ₀ = sized ρ (2' ⊗ (q' ⊗ t' ⊖ ONE' ⊗ m')) q h₀ in
    let δ₁ = sized ρ (2' ⊗ (ONE' ⊗ w' ⊖ n' ⊗ t')) ONE h₁ in
    error_by (2 ^ 29) (4' ⊗ (q' ⊗ w' ⊖ n' ⊗ m')) (plain ρ q' ⊠ δ₁ ⊞ plain ρ n' ⊠ δ₀) (omega arith) tt (omega (arith, mul-le-mul_left q small))

pub once_exact : (x : ℤ) → nat_abs (pos 1 *ℤ x -ℤ x) ≡ 0
once_exact x = ap nat_abs (ap (λ y. y -ℤ x) (one-*ℤ x) ∙ +ℤ_invr x)

-- near(x·G, k·ONE) is within 2 of X·S/E, where x is close enough to X/y
product_within : (k y : ℕ) (x X : ℤ) {G S : ℤ} {D E : ℕ} → Close G S D → 0 < k → E ≡ k * y * D →
    2 * (ONE * nat_abs (pos y *ℤ x -ℤ X) + nat_abs X) ≤ k * y * ONE →
    Within2 (near (x *ℤ G) (k * ONE)) (fraction (X *ℤ S) E)
unfolding Within2
product_within k y x X {G} {S} {D} close h e small =
    rw e (omega (arith, product_error k y D x X G S (near (x *ℤ G) (k * ONE)) close (twice_error (mul-pos h (omega arith)) (x *ℤ G)) small))

-- for F(c·b; b, d)
module _ {c b d : ℕ} (h : ThreeTerm c b d) {φ : Fraction} (turn : Turn φ) {z : ℕ} (short : z ≤ longest_element) where
  pub near_along : Within2 (near (pos (100 * z) *ℤ F (factor (c * b) b d) (square_of (angle_of φ))) ONE) (along_sum (c * b) (c * d) z φ.numerator φ.denominator)
  unfolding along_sum
  near_along =
      let x = pos (100 * z) in
      product_within 1 1 x x (F_close h turn) (omega arith) (omega arith) (omega (arith, once_exact x))

  pub near_aside : (k : ℕ) → 2 ≤ k → Within2 (near (near (pos (100 * z) *ℤ angle_of φ) ONE *ℤ F (factor (c * b) b d) (square_of (angle_of φ))) (k * ONE)) (aside_sum k (c * b) (c * d) z φ.numerator φ.denominator)
  unfolding aside_sum
  near_aside k several =
      let q = φ.denominator in
      let m = φ.numerator in
      let n = 100 * z in
      let w = near (pos n *ℤ angle_of φ) ONE in
      let close = width_error q n m (angle_of φ) w (omega arith) (angle_error turn) (twice_error {d = ONE} (omega arith) (pos n *ℤ angle_of φ)) in
      let quarter = nat_abs-* (pos 4) (pos q *ℤ w -ℤ pos n *ℤ m) in
      product_within k q w (pos n *ℤ m) (F_close h turn) (omega arith)
      (identityℕ {ρ = pos k ∷ pos c ∷ pos b ∷ pos d ∷ pos q ∷ []} (search writing depth 20) (search writing depth 20) tt)
      (omega (arith, close, quarter, nat_abs-* (pos n) m, mul-le-mul_left n turn.half, mul-le-mul_left q short, mul-le-mul_left q several))
