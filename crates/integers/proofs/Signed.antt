-- A whole number by its sign: the sign through products and absolute values, the machine's tests of it, and the bits of a signed number in every width.
use Rattle.std.proofs.Common.{◌≡◌, ℕ, zero, suc, ◌+◌, ◌-◌, ◌^◌, ◌<◌, ◌≤◌, true, false, T, ℤ, pos, negsuc, ◌*ℤ◌, neg_ℤ, nat_abs, ◌≤ℤ◌, ◌<ℤ◌, sym, refl, ap, ◌∙◌, true≢false, arith, lit<, to_z-of_z, w64, Fits, SFits, to_z, of_z, leb-false}
use lib.IntN.{neg_ℤ-neg_ℤ}
use lib.Signed.{non_neg, le_z, lt_z}
use mir.Facts.{to_z_pos}
use mir.Syntax.{Width}
use mir.Val.{bits, hbits}
use mir.ValLaws.{half_full}
use Rattle.integers.specs.Signs.{with_sign, sign_of}
use Rattle.integers.proofs.Ring.{neg-*ℤ, *ℤ_neg}
use Rattle.integers.proofs.Order.{order}
use Rattle.integers.proofs.Abs.{nat_abs_neg}
use Rattle.integers.proofs.Machine.{test_lt, test_not_lt}

-- ---- magnitude and sign

pub nat_abs_sign : (sign : ℕ) (z : ℤ) → nat_abs (with_sign sign z) ≡ nat_abs z
unfolding with_sign
nat_abs_sign zero z = refl
nat_abs_sign (suc n) z = nat_abs_neg z

pub *ℤ_sign : (sign : ℕ) (a b : ℤ) → a *ℤ with_sign sign b ≡ with_sign sign (a *ℤ b)
unfolding with_sign
*ℤ_sign zero a b = refl
*ℤ_sign (suc n) a b = *ℤ_neg a b

pub sign-*ℤ : (sign : ℕ) (a b : ℤ) → with_sign sign a *ℤ b ≡ with_sign sign (a *ℤ b)
unfolding with_sign
sign-*ℤ zero a b = refl
sign-*ℤ (suc n) a b = neg-*ℤ a b

-- a sign goes from one factor to the other
pub sign_move : (sign : ℕ) (a b : ℤ) → with_sign sign a *ℤ b ≡ a *ℤ with_sign sign b
sign_move sign a b = sign-*ℤ sign a b ∙ sym (*ℤ_sign sign a b)

sign_sign : (sign : ℕ) (z : ℤ) → with_sign sign (with_sign sign z) ≡ z
unfolding with_sign
sign_sign zero z = refl
sign_sign (suc n) z = neg_ℤ-neg_ℤ z

pub sign_square : (sign : ℕ) (z : ℤ) → with_sign sign z *ℤ with_sign sign z ≡ z *ℤ z
sign_square sign z = sign-*ℤ sign z (with_sign sign z) ∙ ap (with_sign sign) (*ℤ_sign sign z z) ∙ sign_sign sign (z *ℤ z)

pub sign_zero : (sign : ℕ) → with_sign sign (pos 0) ≡ pos 0
unfolding with_sign
sign_zero zero = refl
sign_zero (suc n) = refl

pub sign_small : (z : ℤ) → sign_of z ≤ 1
unfolding sign_of
sign_small (pos n) = omega arith
sign_small (negsuc n) = omega arith

pub sign_magnitude : (z : ℤ) → sign_of z ≤ nat_abs z
unfolding sign_of
sign_magnitude (pos n) = omega arith
sign_magnitude (negsuc n) = omega arith

-- a magnitude is as large as the number that it is of
pub magnitude_at_most : (sign q : ℕ) {z : ℤ} {k : ℕ} → with_sign sign (pos q) ≡ z → nat_abs z ≤ k → q ≤ k
magnitude_at_most sign q e h = omega (arith, nat_abs_sign sign (pos q), ap nat_abs e, h)

-- ---- the tests of a sign

module _ {z : ℤ} (f : SFits w64 z) where
  pub below_zero : lt_z (to_z w64 (of_z w64 z)) (pos 0) ≡ true → z <ℤ pos 0
  below_zero e = test_lt {w = w64} {x = z} {y = pos 0} f (record { sfits = lit< tt }) e

  pub not_below_zero : lt_z (to_z w64 (of_z w64 z)) (pos 0) ≡ false → pos 0 ≤ℤ z
  not_below_zero e = test_not_lt {w = w64} {x = z} {y = pos 0} f (record { sfits = lit< tt }) e

pub sign_negative : {z : ℤ} → z <ℤ pos 0 → 1 ≡ sign_of z
unfolding sign_of
sign_negative {z = pos n} h = absurd (omega order)
sign_negative {z = negsuc n} h = refl

pub sign_other : {z : ℤ} → pos 0 ≤ℤ z → 0 ≡ sign_of z
unfolding sign_of
sign_other {z = pos n} h = refl
sign_other {z = negsuc n} h = absurd h.le

pub neg_with_sign : {sign : ℕ} (z : ℤ) → (sign ≡ 0 → ⊥) → neg_ℤ z ≡ with_sign sign z
unfolding with_sign
neg_with_sign {sign = zero} z h = absurd (h refl)
neg_with_sign {sign = suc n} z h = refl

-- ---- in the bits of a width: a number that is not negative is its own bits, and the complement of a negative one's bits is its magnitude less one

-- what a cast to the unsigned width asks
abbrev pub Casts : Width → ℤ → Type 0
Casts w z = T (non_neg z) × Fits w (nat_abs z)

pos_casts : (w : Width) {n : ℕ} → n < 2 ^ hbits w → Casts w (pos n)
pos_casts w h = (tt, record { fits = half_full w h })

-- the complement of z's bits is k, one less than |z|
pub record Complement (w : Width) (z : ℤ) : Type 0 where
  pub k : ℕ
  pub small : k < 2 ^ hbits w
  pub is : to_z w (2 ^ bits w - 1 - of_z w z) ≡ pos k
  pub back : 2 ^ bits w - 1 - k ≡ of_z w z
  pub less : nat_abs z ≡ k + 1

above : {w : Width} (z : ℤ) → SFits w z → le_z (pos 0) z ≡ true → Casts w z × (nat_abs z ≡ of_z w z)
above {w} (pos n) f h = (pos_casts w f.sfits, refl)
above (negsuc n) f h = absurd (true≢false (sym h))

below : {w : Width} (z : ℤ) → SFits w z → le_z (pos 0) z ≡ false → Complement w z
below (pos n) f h = absurd (omega (arith, leb-false 0 n h))
below {w} (negsuc n) f h =
    let s : n < 2 ^ hbits w = f.sfits in
    let t : n < 2 ^ bits w = half_full w s in
    let i : 2 ^ bits w - 1 - (2 ^ bits w - suc n) ≡ n = omega arith in
    record { k = n; small = s; is = ap (to_z w) i ∙ to_z_pos w s; back = omega arith; less = omega arith }

module _ {w : Width} (z : ℤ) (f : SFits w z) where
  pub not_negative : le_z (pos 0) (to_z w (of_z w z)) ≡ true → Casts w (to_z w (of_z w z)) × (nat_abs (to_z w (of_z w z)) ≡ of_z w z)
  not_negative h = rw (to_z-of_z f) (above z f (rw (to_z-of_z f) at h))

  pub negative : le_z (pos 0) (to_z w (of_z w z)) ≡ false → Complement w z
  negative h = below z f (rw (to_z-of_z f) at h)

  pub complement_casts : Complement w z → Casts w (to_z w (2 ^ bits w - 1 - of_z w z))
  complement_casts c = rw c.is (pos_casts w c.small)

-- the complement of the complement of n is n
pub complement_twice : (w : Width) {n : ℕ} → Fits w n → 2 ^ bits w - 1 - (2 ^ bits w - 1 - n) ≡ n
complement_twice w f = let h = f.fits in omega arith
