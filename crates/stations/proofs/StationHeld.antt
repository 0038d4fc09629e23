-- Two numbers through their 64 bits, and what is computed of them: where it fits, it is what is computed of the numbers.
use Prim.Native.Nat.{◌≤◌, ◌<◌, ◌^◌}
use mathlib.Core.Path.{◌≡◌, sym, ap, ap₂, subst, ◌∙◌}
use lib.IntN.{ℤ, nat_abs}
use mir.Facts.{to_z-of_z}
use mir.Syntax.{w64}
use mir.Val.{SFits}
use Rattle.integers.proofs.Ranges.{fits_below}
use Rattle.integers.proofs.Held.{held, held_as}

-- f of x and m, which are y and n, through their bits
pub record Computed (f : ℤ → ℤ → ℤ) (y n x m : ℤ) : Type 0 where
  pub fits : SFits w64 (f (held x) (held m))
  pub is : held (f (held x) (held m)) ≡ f y n

pub computed : (f : ℤ → ℤ → ℤ) {x y m n : ℤ} → x ≡ y → m ≡ n → nat_abs y ≤ 2 ^ 32 → nat_abs n ≤ 2 ^ 32 → nat_abs (f y n) < 2 ^ 63 → Computed f y n x m
computed f i j h k l =
    let e = ap₂ f (held_as i h) (held_as j k) in
    record { fits = subst (SFits w64) (sym e) (fits_below l); is = ap held e ∙ to_z-of_z {w = w64} (fits_below l) }
