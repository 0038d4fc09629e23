-- Division that rounds down: floor_div n d is the one q with d · q ≤ n < d · (q + 1), from which its laws follow. The machine's shift right is that quotient.
use Rattle.std.proofs.Common.{◌≡◌, ℕ, suc, ◌+◌, ◌*◌, ◌/◌, ◌%◌, ◌<◌, ℤ, pos, negsuc, ◌+ℤ◌, ◌*ℤ◌, ◌≤ℤ◌, ◌<ℤ◌, sym, refl, ap, ◌∙◌, subst, ⊎_elim, mod-lt, mul_assoc, add-mul, mul-pos, mul-one, mul-suc, arith, SFits, to_z, of_z}
use native.Mathlib.Nat.{div-add-mod, mul-add-div}
use lib.Signed.{clash_ℤ, shr_z, mag_shr}
use mir.Syntax.{Width}
use mir.ValLaws.{to_z-of_z, sfits_le}
use Rattle.integers.specs.Floor.{floor_div, IsFloor}
use Rattle.integers.proofs.Ring.{*ℤ_add, *ℤ_assoc}
use Rattle.integers.proofs.Order.{order, sum, negation, ≤ℤ_trans, ≤ℤ-<ℤ_trans, ≤ℤ_total, ≤ℤ_mul_left, 0≤-pos, pos-<}

-- ---- the bounds

-- d · (q + 1) is d above d · q, by which the bounds are linear in d · q
pub next_multiple : (d : ℕ) (q : ℤ) → pos d *ℤ (q +ℤ pos 1) ≡ pos d *ℤ q +ℤ pos d
next_multiple d q = *ℤ_add (pos d) q (pos 1) ∙ ap (λ x. pos d *ℤ q +ℤ pos x) (mul-one d)

-- a factor in common is left out
pub <ℤ_cancel : {a b : ℤ} (d : ℕ) → (pos d *ℤ a) <ℤ (pos d *ℤ b) → a <ℤ b
<ℤ_cancel {a} {b} d h = ⊎_elim (λ k. clash_ℤ h (≤ℤ_mul_left (pos d) (0≤-pos d) k)) (λ k. k) (≤ℤ_total b a)

-- and a factor is put in
pub <ℤ_mul : {a b : ℤ} {d : ℕ} → 0 < d → a <ℤ b → (pos d *ℤ a) <ℤ (pos d *ℤ b)
<ℤ_mul {a} {b} {d} h l =
    let k : (pos d *ℤ (a +ℤ pos 1)) ≤ℤ (pos d *ℤ b) = ≤ℤ_mul_left {a = a +ℤ pos 1} {b = b} (pos d) (0≤-pos d) (omega (order, sum a (pos 1))) in
    omega (order, next_multiple d a, sum (pos d *ℤ a) (pos d))

pub from_bounds : {n q : ℤ} {d : ℕ} → (pos d *ℤ q) ≤ℤ n → n <ℤ (pos d *ℤ q +ℤ pos d) → IsFloor n d q
from_bounds {n} {q} {d} l h = record { low = l; high = subst (λ x. n <ℤ x) (sym (next_multiple d q)) h }

pub with_remainder : {n q r : ℤ} {d : ℕ} → pos d *ℤ q +ℤ r ≡ n → pos 0 ≤ℤ r → r <ℤ pos d → IsFloor n d q
with_remainder {n} {q} {r} {d} e l h =
    let s = sum (pos d *ℤ q) r in
    from_bounds (omega (order, e, s)) (omega (order, e, s, sum (pos d *ℤ q) (pos d)))

pub floor_is : (n : ℤ) {d : ℕ} → 0 < d → IsFloor n d (floor_div n d)
unfolding floor_div
floor_is (pos n) {d} h = with_remainder (ap pos (div-add-mod n d)) (0≤-pos (n % d)) (pos-< (mod-lt n h))
floor_is (negsuc n) {d} h =
    let a = negation (pos (d * suc (n / d))) in
    let e = mul-suc d (n / d) in
    from_bounds
    (omega (order, div-add-mod n d, mod-lt n h, a, e))
    (omega (order, div-add-mod n d, a, e, sum (pos d *ℤ negsuc (n / d)) (pos d)))

-- ---- laws, for a divisor above 0

module _ {d : ℕ} (h : 0 < d) where
  pub floor_low : (n : ℤ) → (pos d *ℤ floor_div n d) ≤ℤ n
  floor_low n = (floor_is n h).low

  pub floor_high : (n : ℤ) → n <ℤ (pos d *ℤ (floor_div n d +ℤ pos 1))
  floor_high n = (floor_is n h).high

  -- the quotient is at least what times d is at most n, and below what times d is above n
  pub ≤-floor : {n k : ℤ} → (pos d *ℤ k) ≤ℤ n → k ≤ℤ floor_div n d
  ≤-floor {n} {k} l =
      let a : k <ℤ (floor_div n d +ℤ pos 1) = <ℤ_cancel d (≤ℤ-<ℤ_trans l (floor_high n)) in
      omega (order, sum (floor_div n d) (pos 1))

  pub floor-< : {n k : ℤ} → n <ℤ (pos d *ℤ k) → floor_div n d <ℤ k
  floor-< {n} l = <ℤ_cancel d (≤ℤ-<ℤ_trans (floor_low n) l)

  pub floor_unique : {n q : ℤ} → IsFloor n d q → q ≡ floor_div n d
  floor_unique {n} {q} f =
      let a : q ≤ℤ floor_div n d = ≤-floor f.low in
      let b : floor_div n d <ℤ (q +ℤ pos 1) = floor-< f.high in
      omega (order, sum q (pos 1))

  pub floor_mono : {m n : ℤ} → m ≤ℤ n → floor_div m d ≤ℤ floor_div n d
  floor_mono {m} l = ≤-floor (≤ℤ_trans (floor_low m) l)

pub floor_scale : {k d : ℕ} → 0 < k → 0 < d → (n : ℤ) → floor_div (pos k *ℤ n) (k * d) ≡ floor_div n d
floor_scale {k} {d} l h n =
    let assoc : (x : ℤ) → pos k *ℤ (pos d *ℤ x) ≡ pos (k * d) *ℤ x = λ x. sym (*ℤ_assoc (pos k) (pos d) x) in
    sym
    (floor_unique (mul-pos l h)
    (record {
      low = subst (λ x. x ≤ℤ (pos k *ℤ n)) (assoc (floor_div n d)) (≤ℤ_mul_left (pos k) (0≤-pos k) (floor_low h n));
      high = subst (λ x. (pos k *ℤ n) <ℤ x) (assoc (floor_div n d +ℤ pos 1)) (<ℤ_mul l (floor_high h n));
    }))

-- ---- long division of natural numbers

-- one step: the quotient of m · b + h from the quotient and the remainder of m
pub long_division : (m b h : ℕ) {d : ℕ} → 0 < d → m / d * b + (m % d * b + h) / d ≡ (m * b + h) / d
long_division m b h {d} l =
    sym (mul-add-div l (m / d * b) (m % d * b + h))
    ∙ ap (λ x. x / d) (omega (arith, sym (mul_assoc d (m / d) b), add-mul (d * (m / d)) (m % d) b, ap (λ x. x * b) (div-add-mod m d)))

-- ---- the machine's shift

-- The machine's shift right is division by a power of two that rounds down.
pub shift_floor : (n : ℤ) (d : ℕ) → shr_z n d ≡ floor_div n d
unfolding floor_div
shift_floor (pos n) d = refl
shift_floor (negsuc n) d = refl

-- what a shift of an argument leaves
pub shifted : (w : Width) (n : ℤ) (d : ℕ) → SFits w n → to_z w (of_z w (shr_z (to_z w (of_z w n)) d)) ≡ floor_div n d
shifted w n d f =
    ap (λ (z : ℤ). to_z w (of_z w (shr_z z d))) (to_z-of_z w n f) ∙ to_z-of_z w (shr_z n d) (sfits_le (mag_shr n d) f) ∙ shift_floor n d
