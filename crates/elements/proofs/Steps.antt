-- The steps of the series on magnitudes: each number of the code, with the sign put back, is that of the definitions.
use mathlib.Core.Path.{◌≡◌, sym, ◌∙◌, ap, ap₂}
use Prim.Native.Nat.{ℕ, ◌-◌, ◌*◌, ◌≤◌}
use lib.IntN.{ℤ, pos, ◌-ℤ◌, ◌*ℤ◌}
use Rattle.integers.specs.Signs.{with_sign}
use Rattle.integers.proofs.Order.{order, difference}
use Rattle.integers.proofs.Signed.{*ℤ_sign, sign-*ℤ, sign_square}
use Rattle.model.specs.Rounding.{ONE, near}
use Rattle.model.specs.declared.Shape.TheVariants.{Circular}
use Rattle.model.specs.Series.{Factor, F, Series, Local, square_of, series_along, series_aside, cosine, sine, cosine_factor, sine_factor, direction_of}
use Rattle.elements.specs.Reached.{with_aside, measured, series_at}
use Rattle.elements.specs.declared.series.Components.{Components}

pos_sub : {m n : ℕ} → m ≤ n → pos (n - m) ≡ pos n -ℤ pos m
pos_sub {m} {n} h = omega (order, difference (pos n) (pos m))

pub factor_step : (f : Factor) (p x y : ℕ) → x ≤ ONE → y ≤ ONE → pos x ≡ near (pos (f.b * p)) f.d → pos y ≡ near (pos (p * (ONE - x))) (f.a * ONE) → pos (ONE - y) ≡ F f (pos p)
unfolding F
factor_step f p x y hx hy ex ey =
    pos_sub hy
    ∙ ap (λ z. pos ONE -ℤ z) (ey ∙ ap (λ z. near (pos p *ℤ z) (f.a * ONE)) (pos_sub hx ∙ ap (λ z. pos ONE -ℤ z) ex))

-- the square does not see the sign
square_sign : (sign angle : ℕ) → square_of (pos angle) ≡ square_of (with_sign sign (pos angle))
unfolding square_of
square_sign sign angle = ap (λ z. near z ONE) (sym (sign_square sign (pos angle)))

-- near of a product of magnitudes, signed by one of them
pub near_times : (sign m n d r : ℕ) → with_sign sign (pos r) ≡ near (with_sign sign (pos (m * n))) d → with_sign sign (pos r) ≡ near (pos m *ℤ with_sign sign (pos n)) d
near_times sign m n d r e = e ∙ ap (λ z. near z d) (sym (*ℤ_sign sign (pos m) (pos n)))

pub near_times' : (sign m n d r : ℕ) → with_sign sign (pos r) ≡ near (with_sign sign (pos (m * n))) d → with_sign sign (pos r) ≡ near (with_sign sign (pos m) *ℤ pos n) d
near_times' sign m n d r e = e ∙ ap (λ z. near z d) (sym (sign-*ℤ sign (pos m) (pos n)))

abbrev local : ℤ → ℤ → Local
local a b = record { along = a; aside = b }

module _ (sign angle square : ℕ) (p : pos square ≡ square_of (pos angle)) where
  at_angle : {f : ℕ} (k : Factor) → pos f ≡ F k (pos square) → pos f ≡ F k (square_of (with_sign sign (pos angle)))
  at_angle k e = e ∙ ap (F k) (p ∙ square_sign sign angle)

  -- u and v from the factors
  pub series_at_lem : (k : Series) (length f g u v : ℕ) → pos f ≡ F k.along_factor (pos square) → pos g ≡ F k.aside_factor (pos square) → pos u ≡ near (pos (100 * length) *ℤ pos f) ONE → with_sign sign (pos v) ≡ near (near (pos (100 * length) *ℤ with_sign sign (pos angle)) ONE *ℤ pos g) (k.aside_divisor * ONE) → measured sign (record { angle = angle; along = u; aside = v }) ≡ series_at k length (with_sign sign (pos angle))
  unfolding series_along series_aside
  series_at_lem k length f g u v ef eg eu ev =
      ap₂ (λ (a b : ℤ). record { angle = with_sign sign (pos angle); along = a; aside = b })
      (eu ∙ ap (λ z. near (pos (100 * length) *ℤ z) ONE) (at_angle k.along_factor ef))
      (ev ∙ ap (λ z. near (near (pos (100 * length) *ℤ with_sign sign (pos angle)) ONE *ℤ z) (k.aside_divisor * ONE)) (at_angle k.aside_factor eg))

  pub direction_at_lem : (f : ℕ) (r : Components) → pos f ≡ F sine_factor (pos square) → pos r.along ≡ F cosine_factor (pos square) → with_sign sign (pos r.aside) ≡ near (with_sign sign (pos (angle * f))) ONE → with_aside sign r ≡ direction_of Circular (with_sign sign (pos angle))
  unfolding direction_of cosine sine
  direction_at_lem f r ef c s =
      ap₂ local
      (at_angle cosine_factor c)
      (near_times' sign angle f ONE r.aside s ∙ ap (λ z. near (with_sign sign (pos angle) *ℤ z) ONE) (at_angle sine_factor ef))
