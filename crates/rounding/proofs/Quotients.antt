-- A rounded quotient as the code finds it: that of ±n is a quotient of n rounded down, with the sign put back.
use mathlib.Core.Path.{◌≡◌, refl, sym, ◌∙◌, ap}
use Prim.Native.Nat.{ℕ, zero, suc, ◌+◌, ◌-◌, ◌*◌, ◌/◌, ◌%◌, ◌^◌, ◌<◌, ◌≤◌}
use native.Mathlib.Omega.{arith}
use native.Mathlib.Nat.{mul_assoc, div-add-mod, mod-lt, le_trans, le_of_eq}
use lib.IntN.{ℤ, pos, neg_ℤ, ◌+ℤ◌, ◌*ℤ◌}
use Rattle.integers.specs.Floor.{floor_div}
use Rattle.integers.specs.Signs.{with_sign}
use Rattle.integers.proofs.Ring.{*ℤ_neg, *ℤ_add}
use Rattle.integers.proofs.Floor.{floor_scale}
use Rattle.integers.proofs.Order.{order, sum, negation, multiple}
use Rattle.integers.proofs.Signed.{nat_abs_sign, magnitude_at_most}
use Rattle.model.specs.Rounding.{ONE, near}
use Rattle.model.proofs.Rounding.{near_unique}
use Rattle.rounding.specs.Rounded.{lowered}
use Rattle.rounding.proofs.Sizes.{near_within}

-- What is taken off is at most the sign, so nothing for a number that is not negative; and there is a sign for which 1 is.
pub lowered-≤ : (sign : ℕ) → lowered sign ≤ sign
unfolding lowered
lowered-≤ sign = omega arith

pub lowered_0 : lowered 0 ≡ 0
lowered_0 = omega (arith, lowered-≤ 0)

lowered_same : (off : ℕ) → lowered off ≡ off
unfolding lowered
lowered_same off = refl

-- q is the magnitude of near(±n, d): 2·d·q is between 2·n − d and 2·n + d, and a half goes by what is taken off
near_magnitude : (sign n d q : ℕ) → sign ≤ 1 → 0 < d → 2 * (d * q) + lowered sign ≤ 2 * n + d → 2 * n + d < 2 * (d * q) + 2 * d + lowered sign → with_sign sign (pos q) ≡ near (with_sign sign (pos n)) d
unfolding with_sign lowered
near_magnitude zero n d q s h low high =
    near_unique h (record { low = omega order; high = omega order })
near_magnitude (suc zero) n d q s h low high =
    let e = *ℤ_neg (pos d) (pos q) in
    let x = negation (pos (d * q)) in
    let y = negation (pos n) in
    let two = multiple 2 (pos d *ℤ neg_ℤ (pos q)) in
    let twice = multiple 2 (neg_ℤ (pos n)) in
    near_unique h
    (record {
      low = omega (order, e, sum (pos 2 *ℤ neg_ℤ (pos n)) (pos d));
      high = omega (order, e, sum (pos 2 *ℤ (pos d *ℤ neg_ℤ (pos q))) (pos d));
    })
near_magnitude (suc (suc k)) n d q s h low high = absurd (omega arith)

-- for an even d
pub near_even : (sign n d : ℕ) {off : ℕ} → sign ≤ 1 → lowered sign ≡ off → 1 < d → d % 2 ≡ 0 → with_sign sign (pos ((n + d / 2 - off) / d)) ≡ near (with_sign sign (pos n)) d
near_even sign n d {off} s o h even =
    let m = n + d / 2 - off in
    let e = div-add-mod m d in
    let r = mod-lt m {m = d} (omega arith) in
    let l = lowered-≤ sign in
    near_magnitude sign n d (m / d) s (omega arith) (omega arith) (omega arith)

-- for any d, in halves
pub near_halves : (sign n d : ℕ) {off : ℕ} → sign ≤ 1 → lowered sign ≡ off → 0 < d → with_sign sign (pos ((2 * n + (d - off)) / (2 * d))) ≡ near (with_sign sign (pos n)) d
near_halves sign n d {off} s o h =
    let m = 2 * n + (d - off) in
    let q = m / (2 * d) in
    let e = div-add-mod m (2 * d) in
    let r = mod-lt m {m = 2 * d} (omega arith) in
    let l = lowered-≤ sign in
    near_magnitude sign n d q s h (omega (arith, mul_assoc 2 d q)) (omega (arith, mul_assoc 2 d q))

-- a magnitude that is near(±n, d) wherever `off` is taken off is at most k where n ≤ d · k
pub near_at_most : (n d q k : ℕ) {off : ℕ} → off ≤ 1 → 0 < d → ((sign : ℕ) → sign ≤ 1 → lowered sign ≡ off → with_sign sign (pos q) ≡ near (with_sign sign (pos n)) d) → n ≤ d * k → q ≤ k
near_at_most n d q k {off} o h is b =
    magnitude_at_most off q (is off o (lowered_same off))
    (near_within h (with_sign off (pos n)) (le_trans (le_of_eq (nat_abs_sign off (pos n))) b))

-- for any n, and ONE
pub near_shift : (n : ℤ) → floor_div (n +ℤ pos (2 ^ 29)) (2 ^ 30) ≡ near n ONE
unfolding near
near_shift n = sym (floor_scale {k = 2} {d = 2 ^ 30} (omega arith) (omega arith) (n +ℤ pos (2 ^ 29))) ∙ ap (λ x. floor_div x (2 ^ 31)) (*ℤ_add (pos 2) n (pos (2 ^ 29)))
