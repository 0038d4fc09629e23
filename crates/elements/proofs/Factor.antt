-- The factor F(a; b, d). Where 0 ≤ p ≤ 2^28 it lies between 0 and ONE; where p is within 1 of ONE·φ², it is within 1 of ONE·(1 − φ²/a + b·φ⁴/(a·d))
-- for a from 4 on, since its error is a sum of multiples of the errors of p and of its own two roundings.
use mathlib.Core.Path.{◌≡◌}
use mathlib.Core.List.{[], ◌∷◌}
use Prim.Native.Nat.{ℕ, ◌*◌, ◌^◌, ◌≤◌, ◌<◌}
use native.Mathlib.Omega.{arith}
use native.Mathlib.Nat.{le_trans, le_of_eq, mul-le-mul, mul-le-mul_left, mul-pos}
use lib.IntN.{ℤ, pos, nat_abs, ◌+ℤ◌, ◌-ℤ◌, ◌*ℤ◌}
use lib.Signed.{◌≤ℤ◌}
use Rattle.integers.proofs.Order.{order, difference, parts, 0≤-pos, 0≤-mul}
use Rattle.integers.proofs.Abs.{nat_abs-*}
use Rattle.integers.proofs.Identity.{var, ◌⊕◌, ◌⊖◌, ◌⊗◌}
use Rattle.integers.proofs.Written.{writing, identity, identityℕ}
use Rattle.model.specs.Rounding.{ONE, near}
use Rattle.model.specs.Series.{Factor, factor, F, square_of, Fraction, angle_of}
use Rattle.model.specs.Bound.{three_terms}
use Rattle.rounding.proofs.Sizes.{twice_error, 0≤-near, near_within}
use Rattle.elements.proofs.Errors.{sized, plain, 2', 4', ONE', ◌⊞◌, ◌⊟◌, ◌⊠◌, ◌·◌, error_by}
use Rattle.elements.proofs.Angle.{Turn, Square, square_numerator, angle_square, angle_square_error}

-- what every F(a; b, d) in use has
pub record Proper (f : Factor) : Type 0 where
  pub first : 1 ≤ f.a
  pub over : 1 ≤ f.d
  pub under : f.b ≤ f.d

-- F's two roundings: near(b·p, d), and what F is below ONE
abbrev pub inner : Factor → ℤ → ℤ
inner f p = near (pos f.b *ℤ p) f.d

abbrev pub outer : Factor → ℤ → ℤ
outer f p = near (p *ℤ (pos ONE -ℤ inner f p)) (f.a * ONE)

scale_positive : {f : Factor} → Proper f → 0 < f.a * ONE
scale_positive h = mul-pos h.first (omega arith)

-- ---- the ranges

module _ {f : Factor} (h : Proper f) {p : ℤ} (square : Square p) where
  -- its two roundings, by the names that they have in the error below
  abbrev r : ℤ
  r = inner f p

  abbrev g : ℤ
  g = outer f p

  0≤-inner : pos 0 ≤ℤ r
  0≤-inner = 0≤-near h.over (0≤-mul (0≤-pos f.b) square.low)

  inner_within : nat_abs r ≤ 2 ^ 28
  inner_within = near_within h.over (pos f.b *ℤ p) (le_trans (le_of_eq (nat_abs-* (pos f.b) p)) (mul-le-mul h.under square.high))

  0≤-rest : pos 0 ≤ℤ (pos ONE -ℤ r)
  0≤-rest = omega (order, difference (pos ONE) r, parts r, inner_within)

  rest_within : nat_abs (pos ONE -ℤ r) ≤ ONE
  rest_within = omega (order, difference (pos ONE) r, parts r, parts (pos ONE -ℤ r), 0≤-inner, inner_within)

  0≤-outer : pos 0 ≤ℤ g
  0≤-outer = 0≤-near (scale_positive h) (0≤-mul square.low 0≤-rest)

  outer_within : nat_abs g ≤ 2 ^ 28
  outer_within =
      near_within (scale_positive h) (p *ℤ (pos ONE -ℤ r))
      (omega (arith, nat_abs-* p (pos ONE -ℤ r), mul-le-mul square.high rest_within, h.first))

  0≤-F : pos 0 ≤ℤ F f p
  unfolding F
  0≤-F = omega (order, difference (pos ONE) g, parts g, outer_within)

  F≤ONE : F f p ≤ℤ pos ONE
  unfolding F
  F≤ONE = omega (order, difference (pos ONE) g, 0≤-outer)

  pub F_within : nat_abs (F f p) ≤ ONE
  F_within = omega (order, parts (F f p), 0≤-F, F≤ONE)

-- ---- the error

-- the numerator of 1 − φ²/a + φ⁴/b over a·b·P², with P = q² and M = m²
abbrev terms : ℕ → ℕ → ℕ → ℤ → ℤ
terms a b P M = pos (a * b * (P * P)) -ℤ pos (b * P) *ℤ M +ℤ pos a *ℤ (M *ℤ M)

-- c·b·c·d·P² times the error of F = ONE − g against ONE·(1 − φ²/(c·b) + φ⁴/(c·d)): 8·ONE times it is
-- c·(2·δ₀·(b·(4·P·p + ONE·4M) − 4·ONE·d·P) + 4·P²·(p·δ₁ − d·δ₂)),
-- where δ₀ is P times the error of p, and δ₁ and δ₂ are what the roundings of r and g leave, doubled.
factor_error : (c b d P : ℕ) (M p r g : ℤ) →
    b ≤ d →
    4 ≤ c * b →
    nat_abs (pos 4 *ℤ M) ≤ P →
    nat_abs p ≤ 2 ^ 28 →
    nat_abs (pos P *ℤ p -ℤ pos ONE *ℤ M) ≤ P →
    nat_abs (pos 2 *ℤ (pos d *ℤ r -ℤ pos b *ℤ p)) ≤ d →
    nat_abs (pos 2 *ℤ (pos (c * b * ONE) *ℤ g -ℤ p *ℤ (pos ONE -ℤ r))) ≤ c * b * ONE →
    nat_abs (pos (c * b * (c * d) * (P * P)) *ℤ (pos ONE -ℤ g) -ℤ pos ONE *ℤ terms (c * b) (c * d) P M) ≤ c * b * (c * d) * (P * P)
factor_error c b d P M p r g hb ha h_m hp h₀ h₁ h₂ =
    let ρ = pos c ∷ pos b ∷ pos d ∷ pos P ∷ M ∷ p ∷ r ∷ g ∷ [] in
    let c' = var 0 in
    let b' = var 1 in
    let d' = var 2 in
    let P' = var 3 in
    let M' = var 4 in
    let p' = var 5 in
    let r' = var 6 in
    let g' = var 7 in
    let |c| = plain ρ c' in
    let |b| = plain ρ b' in
    let |d| = plain ρ d' in
    let |P| = plain ρ P' in
    let |4M| = sized ρ (4' ⊗ M') P h_m in
    let |p| = sized ρ p' (2 ^ 28) hp in
    let δ₀ = sized ρ (P' ⊗ p' ⊖ ONE' ⊗ M') P h₀ in
    let δ₁ = sized ρ (2' ⊗ (d' ⊗ r' ⊖ b' ⊗ p')) d h₁ in
    let δ₂ = sized ρ (2' ⊗ (c' ⊗ b' ⊗ ONE' ⊗ g' ⊖ p' ⊗ (ONE' ⊖ r'))) (c * b * ONE) h₂ in
    let whole' = c' ⊗ b' ⊗ (c' ⊗ d') ⊗ (P' ⊗ P') in
    error_by (8 * ONE)
    (whole' ⊗ (ONE' ⊖ g') ⊖ ONE' ⊗ (whole' ⊖ c' ⊗ d' ⊗ P' ⊗ M' ⊕ c' ⊗ b' ⊗ (M' ⊗ M')))
    (|c| ⊠ (2 · (δ₀ ⊠ (|b| ⊠ (4 · (|P| ⊠ |p|) ⊞ ONE · |4M|) ⊟ 4 * ONE · (|d| ⊠ |P|))) ⊞ 4 · (|P| ⊠ |P| ⊠ (|p| ⊠ δ₁ ⊟ |d| ⊠ δ₂))))
    (omega arith)
    tt
    (omega (arith, mul-le-mul_left (c * (P * P)) hb, mul-le-mul_left (c * (P * P) * d) ha))

three_terms_lem : (a b : ℕ) (m : ℤ) (q : ℕ) → three_terms a b m q ≡ terms a b (q * q) (m *ℤ m)
unfolding three_terms
three_terms_lem a b m q = identity {ρ = pos a ∷ pos b ∷ m ∷ pos q ∷ []} (search writing depth 20 fits 5000) (search writing depth 20 fits 5000) tt

denominator : (a b q : ℕ) → a * b * q ^ 4 ≡ a * b * (q * q * (q * q))
denominator a b q = identityℕ {ρ = pos a ∷ pos b ∷ pos q ∷ []} (search writing depth 20) (search writing depth 20) tt

-- The numbers of F(c·b; b, d), whose three-term sum is 1 − φ²/(c·b) + φ⁴/(c·d).
pub record ThreeTerm (c b d : ℕ) : Type 0 where
  pub first : 4 ≤ c * b
  pub over : 1 ≤ d
  pub under : b ≤ d

three_term_proper : {c b d : ℕ} → ThreeTerm c b d → Proper (factor (c * b) b d)
three_term_proper h = omega arith

-- G is at most ONE, and within 1 of ONE·S/D.
pub record Close (G S : ℤ) (D : ℕ) : Type 0 where
  pub range : nat_abs G ≤ ONE
  pub error : nat_abs (pos D *ℤ G -ℤ pos ONE *ℤ S) ≤ D

pub F_close : {c b d : ℕ} → ThreeTerm c b d → {φ : Fraction} → Turn φ →
    Close (F (factor (c * b) b d) (square_of (angle_of φ))) (three_terms (c * b) (c * d) φ.numerator φ.denominator) (c * b * (c * d) * φ.denominator ^ 4)
unfolding F
F_close {c} {b} {d} h {φ} turn =
    let p = square_of (angle_of φ) in
    let f = factor (c * b) b d in
    let proper = three_term_proper h in
    record {
      range = F_within proper (angle_square turn);
      error =
          rw (denominator, three_terms_lem)
          (factor_error c b d (φ.denominator * φ.denominator) (φ.numerator *ℤ φ.numerator) p (inner f p) (outer f p)
          h.under
          h.first
          (square_numerator turn)
          (angle_square turn).high
          (angle_square_error turn)
          (twice_error h.over (pos b *ℤ p))
          (twice_error (scale_positive proper) (p *ℤ (pos ONE -ℤ inner f p))));
    }
