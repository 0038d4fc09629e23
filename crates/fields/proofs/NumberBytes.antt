-- A number and its bytes: what is written is what is read, and the bytes that are read are those that are written. A number has one row of digits to the base 256.
use Prim.Native.Nat.{ℕ, ◌+◌, ◌*◌, ◌/◌, ◌%◌, ◌^◌, ◌<◌}
use native.Mathlib.Nat.{div-add-mod', mod-eq_of_lt, div-div-eq-div-mul}
use native.Mathlib.Omega.{arith}
use mathlib.Core.List.{[], ◌∷◌}
use mathlib.Core.Path.{◌≡◌, ap, ◌∙◌}
use lib.IntN.{ℤ}
use mir.Syntax.{w32}
use mir.Val.{SFits, to_z, of_z}
use mir.ValLaws.{to_z-of_z, of_z-to_z, of_z_fits}
use Rattle.model.specs.Records.{u16_bytes, u32_bytes, i32_bytes}

-- ---- what is written is what is read

pub u16_back : (n : ℕ) → n < 2 ^ 16 → n % 256 + 256 * (n / 256 % 256) ≡ n
u16_back n h = omega arith

four_digits : (n a b c r s t : ℕ) → a * 256 + r ≡ n → b * 256 + s ≡ a → c * 256 + t ≡ b → r + 256 * s + 65536 * t + 16777216 * c ≡ n
four_digits n a b c r s t p q u = omega arith

pub u32_back : (n : ℕ) → n < 2 ^ 32 → n % 256 + 256 * (n / 256 % 256) + 65536 * (n / 65536 % 256) + 16777216 * (n / 16777216 % 256) ≡ n
u32_back n h =
    rw (mod-eq_of_lt {n = n / 16777216} {m = 256} (omega arith))
    (four_digits n (n / 256) (n / 65536) (n / 16777216) (n % 256) (n / 256 % 256) (n / 65536 % 256)
    (div-add-mod' n 256)
    (rw (← div-div-eq-div-mul n 256 256) (div-add-mod' (n / 256) 256))
    (rw (← div-div-eq-div-mul n 65536 256) (div-add-mod' (n / 65536) 256)))

pub i32_back : (z : ℤ) → SFits w32 z → to_z w32 (of_z w32 z % 256 + 256 * (of_z w32 z / 256 % 256) + 65536 * (of_z w32 z / 65536 % 256) + 16777216 * (of_z w32 z / 16777216 % 256)) ≡ z
i32_back z s = ap (to_z w32) (u32_back (of_z w32 z) (of_z_fits w32 z s).fits) ∙ to_z-of_z w32 z s

-- ---- what is read is what is written

low_digit : (r q : ℕ) → r < 256 → (r + 256 * q) % 256 ≡ r
low_digit r q h = omega arith

high_digits : (r q : ℕ) → r < 256 → (r + 256 * q) / 256 ≡ q
high_digits r q h = omega arith

pub u16_same : (b c : ℕ) → b < 256 → c < 256 → u16_bytes (b + 256 * c) ≡ b ∷ c ∷ []
u16_same b c p q = rw (low_digit b c p, high_digits b c p, mod-eq_of_lt q)

module _ (b c d e : ℕ) (p : b < 256) (q : c < 256) (r : d < 256) (s : e < 256) where
  digits_same : u32_bytes (b + 256 * (c + 256 * (d + 256 * e))) ≡ b ∷ c ∷ d ∷ e ∷ []
  digits_same =
      rw (
        low_digit b (c + 256 * (d + 256 * e)) p,
        ← div-div-eq-div-mul (b + 256 * (c + 256 * (d + 256 * e))) 65536 256,
        ← div-div-eq-div-mul (b + 256 * (c + 256 * (d + 256 * e))) 256 256,
        high_digits b (c + 256 * (d + 256 * e)) p,
        low_digit c (d + 256 * e) q,
        high_digits c (d + 256 * e) q,
        low_digit d e r,
        high_digits d e r,
        mod-eq_of_lt s,
      )

  pub u32_same : u32_bytes (b + 256 * c + 65536 * d + 16777216 * e) ≡ b ∷ c ∷ d ∷ e ∷ []
  u32_same =
      let n : b + 256 * c + 65536 * d + 16777216 * e ≡ b + 256 * (c + 256 * (d + 256 * e)) = omega arith in
      ap u32_bytes n ∙ digits_same

  pub i32_same : i32_bytes (to_z w32 (b + 256 * c + 65536 * d + 16777216 * e)) ≡ b ∷ c ∷ d ∷ e ∷ []
  i32_same = ap u32_bytes (of_z-to_z w32 (b + 256 * c + 65536 * d + 16777216 * e) (record { fits = omega arith })) ∙ u32_same
