-- Ranges by computation: a bound on the absolute value of an expression from bounds on its variables, and from it that the value fits a signed width.
--   fits_by {ρ = a ∷ b ∷ []} (100 ∷ 7 ∷ []) (h, (k, tt)) (search writing depth 20) tt : SFits w64 (a *ℤ b +ℤ a)
-- where h : nat_abs a ≤ 100 and k : nat_abs b ≤ 7.
use Rattle.std.proofs.Common.{◌≡◌, ℕ, zero, suc, ◌+◌, ◌*◌, ◌^◌, ◌<◌, ◌≤◌, T, ltb, leb, List, [], ◌∷◌, ℤ, pos, nat_abs, sym, refl, ap, ◌∙◌, subst, zero-le, le_trans, le_of_eq, le_refl, lt_of_le_of_lt, add-le-add, mul-le-mul, ltb→lt, leb→le, SFits}
use native.Mathlib.Nat.{pow-le-pow_left}
use mir.Val.{hbits}
use mir.Syntax.{Width}
use Rattle.integers.proofs.Identity.{Expr, var, lit, ◌⊕◌, ◌⊖◌, ◌⊗◌, ◌↑◌, neg, eval, lookup}
use Rattle.integers.proofs.Written.{Written}
use Rattle.integers.proofs.Abs.{nat_abs_neg, nat_abs-+, nat_abs--, nat_abs-*, nat_abs_pow, mag-≤}

-- the absolute value of each variable is at most the bound in its place
abbrev pub Within : List ℤ → List ℕ → Type 0
Within [] β = Unit {0}
Within (x ∷ ρ) [] = ⊥
Within (x ∷ ρ) (b ∷ β) = (nat_abs x ≤ b) × Within ρ β

abbrev pub bound_at : List ℕ → ℕ → ℕ
bound_at [] i = 0
bound_at (b ∷ β) zero = b
bound_at (b ∷ β) (suc i) = bound_at β i

abbrev pub bound : List ℕ → Expr → ℕ
bound β (var i) = bound_at β i
bound β (lit k) = nat_abs k
bound β (a ⊕ b) = bound β a + bound β b
bound β (a ⊖ b) = bound β a + bound β b
bound β (a ⊗ b) = bound β a * bound β b
bound β (neg a) = bound β a
bound β (a ↑ k) = bound β a ^ k

lookup_none : (i : ℕ) → lookup [] i ≡ pos 0
lookup_none zero = refl
lookup_none (suc i) = lookup_none i

lookup_within : (ρ : List ℤ) (β : List ℕ) → Within ρ β → (i : ℕ) → nat_abs (lookup ρ i) ≤ bound_at β i
lookup_within [] β w i = le_trans (le_of_eq (ap nat_abs (lookup_none i))) zero-le
lookup_within (x ∷ ρ) [] w i = absurd w
lookup_within (x ∷ ρ) (b ∷ β) w zero = w.0
lookup_within (x ∷ ρ) (b ∷ β) w (suc i) = lookup_within ρ β w.1 i

module _ (ρ : List ℤ) (β : List ℕ) (w : Within ρ β) where
  pub value_within : (e : Expr) → nat_abs (eval ρ e) ≤ bound β e
  value_within (var i) = lookup_within ρ β w i
  value_within (lit k) = le_refl (nat_abs k)
  value_within (a ⊕ b) = le_trans (nat_abs-+ (eval ρ a) (eval ρ b)) (add-le-add (value_within a) (value_within b))
  value_within (a ⊖ b) = le_trans (nat_abs-- (eval ρ a) (eval ρ b)) (add-le-add (value_within a) (value_within b))
  value_within (a ⊗ b) = le_trans (le_of_eq (nat_abs-* (eval ρ a) (eval ρ b))) (mul-le-mul (value_within a) (value_within b))
  value_within (neg a) = le_trans (le_of_eq (nat_abs_neg (eval ρ a))) (value_within a)
  value_within (a ↑ k) = le_trans (le_of_eq (nat_abs_pow (eval ρ a) k)) (pow-le-pow_left (value_within a) k)

-- |a| ≤ K
pub abs_by : {ρ : List ℤ} (β : List ℕ) (a : ℤ) {K : ℕ} → Within ρ β → (d : Written ρ a) → T (leb (bound β d.expr) K) → nat_abs a ≤ K
abs_by {ρ} β a {K} w d t = subst (λ x. nat_abs x ≤ K) d.means (le_trans (value_within ρ β w d.expr) (leb→le (bound β d.expr) K t))

-- |a| is at most what the bounds of the variables give for b, where a is b: the same with bounds that are no literals
pub abs_within : {ρ : List ℤ} (β : List ℕ) (a b : ℤ) {k : ℕ} → a ≡ b → Within ρ β → (d : Written ρ b) → bound β d.expr ≡ k → nat_abs a ≤ k
abs_within {ρ} β a b {k} e w d f = le_trans (le_of_eq (ap nat_abs (e ∙ sym d.means))) (le_trans (value_within ρ β w d.expr) (le_of_eq f))

pub fits_below : {w : Width} {a : ℤ} → nat_abs a < 2 ^ hbits w → SFits w a
fits_below {w} {a} h = record { sfits = lt_of_le_of_lt (mag-≤ a) h }

-- a fits the signed width w
pub fits_by : {ρ : List ℤ} (β : List ℕ) {a : ℤ} {w : Width} → Within ρ β → (d : Written ρ a) → T (ltb (bound β d.expr) (2 ^ hbits w)) → SFits w a
fits_by {ρ} β {a} {w} i d t =
    subst (λ x. SFits w x) d.means (fits_below (lt_of_le_of_lt (value_within ρ β i d.expr) (ltb→lt (bound β d.expr) (2 ^ hbits w) t)))
