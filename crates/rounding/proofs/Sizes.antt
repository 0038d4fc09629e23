-- How far near(n, d) is from n/d, and how large it is: what follows from its three laws, that its error is at most a half, that it is monotone, and that it is exact on
-- multiples of d.
use mathlib.Core.Path.{◌≡◌, sym, ◌∙◌, ap, subst}
use Prim.Native.Nat.{ℕ, ◌+◌, ◌*◌, ◌≤◌, ◌<◌}
use native.Mathlib.Omega.{arith}
use native.Mathlib.Nat.{mul-zero, mul-le-mul, le_trans, le_of_eq}
use lib.IntN.{ℤ, pos, nat_abs, ◌+ℤ◌, ◌-ℤ◌, ◌*ℤ◌}
use lib.Signed.{◌≤ℤ◌}
use Rattle.integers.proofs.Ring.{*ℤ_neg}
use Rattle.integers.proofs.Abs.{nat_abs-+, nat_abs--, nat_abs-*, nat_abs-≤, ≤-nat_abs}
use Rattle.model.specs.Rounding.{ONE, near}
use Rattle.model.proofs.Rounding.{near_error, near_mono, near_multiple}

module _ {d : ℕ} (h : 0 < d) where
  -- twice the error of near(n, d), d times as large, is at most d
  pub twice_error : (n : ℤ) → nat_abs (pos 2 *ℤ (pos d *ℤ near n d -ℤ n)) ≤ d
  twice_error n = le_trans (le_of_eq (nat_abs-* (pos 2) (pos d *ℤ near n d -ℤ n))) (near_error h n)

  pub near-≤ : {n k : ℤ} → n ≤ℤ (pos d *ℤ k) → near n d ≤ℤ k
  near-≤ {n} {k} l = subst (λ x. near n d ≤ℤ x) (near_multiple h k) (near_mono h l)

  pub ≤-near : {n k : ℤ} → (pos d *ℤ k) ≤ℤ n → k ≤ℤ near n d
  ≤-near {n} {k} l = subst (λ x. x ≤ℤ near n d) (near_multiple h k) (near_mono h l)

  pub near_0 : near (pos 0) d ≡ pos 0
  near_0 = ap (λ n. near n d) (sym (ap pos (mul-zero d))) ∙ near_multiple h (pos 0)

  pub 0≤-near : {n : ℤ} → pos 0 ≤ℤ n → pos 0 ≤ℤ near n d
  0≤-near {n} l = ≤-near (subst (λ x. x ≤ℤ n) (sym (ap pos (mul-zero d))) l)

  -- |near(n, d)| ≤ k where |n| ≤ d · k
  pub near_within : (n : ℤ) {k : ℕ} → nat_abs n ≤ d * k → nat_abs (near n d) ≤ k
  near_within n {k} l =
      let b = ≤-nat_abs l in
      nat_abs-≤ (≤-near (subst (λ x. x ≤ℤ n) (sym (*ℤ_neg (pos d) (pos k))) b.0)) (near-≤ b.1)

-- a rounded sum of two products with factors up to r · ONE
pub near_turn : (r : ℕ) (a u b v : ℤ) {j k : ℕ} → nat_abs a ≤ r * ONE → nat_abs b ≤ r * ONE → nat_abs u ≤ j → nat_abs v ≤ k → (nat_abs (near (a *ℤ u -ℤ b *ℤ v) ONE) ≤ r * (j + k)) × (nat_abs (near (a *ℤ u +ℤ b *ℤ v) ONE) ≤ r * (j + k))
near_turn r a u b v {j} {k} ha hb hu hv =
    let x = a *ℤ u in
    let y = b *ℤ v in
    let first : nat_abs x ≤ r * ONE * j = omega (arith, nat_abs-* a u, mul-le-mul ha hu) in
    let second : nat_abs y ≤ r * ONE * k = omega (arith, nat_abs-* b v, mul-le-mul hb hv) in
    let both : nat_abs x + nat_abs y ≤ ONE * (r * (j + k)) = omega arith in
    (near_within {d = ONE} (omega arith) (x -ℤ y) (le_trans (nat_abs-- x y) both), near_within {d = ONE} (omega arith) (x +ℤ y) (le_trans (nat_abs-+ x y) both))
