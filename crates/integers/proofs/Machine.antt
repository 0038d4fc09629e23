-- Terms as the machine computes them: signed operations whose arguments and results pass through their bits, `to_z w (of_z w a)`.
-- `search machine` finds the term without the casts, and a test that computes shows that each cast on the way fits; so a need of a function is one line:
--   fits-machine (Γ c) (search machine depth 20) tt          a result fits its width
--   by-machine (Γ c) (search machine depth 20) (search machine depth 20) tt     a result is what the contract says
--   abs-machine (Γ c) a (search machine depth 20) tt          a result a is at most as large as a callee asks
-- where Γ c lists the arguments, bounds on their absolute values, and why these hold.
use Rattle.std.proofs.Common.{◌≡◌, ℕ, ◌^◌, ◌≤◌, Bool, true, false, not, ◌&&◌, T, ltb, leb, List, ℤ, pos, negsuc, ◌+ℤ◌, ◌*ℤ◌, neg_ℤ, nat_abs, ◌≤ℤ◌, ◌<ℤ◌, sym, refl, ap, ◌∙◌, subst, ap₂, subst₂, to_z-of_z, SFits, to_z, of_z}
use lib.Signed.{lt_z, lt_z_no, lt_z_yes}
use mir.Syntax.{Width}
use mir.Val.{hbits}
use mir.Facts.{and_yes}
use Rattle.integers.proofs.Identity.{Expr, var, lit, ◌⊕◌, ◌⊖◌, ◌⊗◌, neg, same_value, eval, is_zero, norm}
use Rattle.integers.proofs.Written.{Listed, here, there, numeral}
use Rattle.integers.proofs.Ranges.{Within, bound, abs_by, fits_by}

pub record Env : Type 0 where
  pub vars : List ℤ
  pub bounds : List ℕ
  pub within : Within vars bounds

abbrev pub env : (ρ : List ℤ) (β : List ℕ) → Within ρ β → Env
env ρ β w = record { vars = ρ; bounds = β; within = w }

-- An expression that means a, provided that the test `good` passes: every number that is cast on the way fits.
pub record Machine (Γ : Env) (a : ℤ) : Type 0 where
  pub expr : Expr
  pub good : Bool
  pub means : T good → eval Γ.vars expr ≡ a

abbrev pub below : (w : Width) (Γ : Env) → Expr → Bool
below w Γ e = ltb (bound Γ.bounds e) (2 ^ hbits w)

fits_of : (w : Width) {Γ : Env} {a : ℤ} (d : Machine Γ a) → T d.good → T (below w Γ d.expr) → SFits w a
fits_of w {Γ} d g t = fits_by {ρ = Γ.vars} Γ.bounds Γ.within (record { expr = d.expr; means = d.means g }) t

pub cast_means : (w : Width) {Γ : Env} {a : ℤ} (d : Machine Γ a) → T (d.good && below w Γ d.expr) → eval Γ.vars d.expr ≡ to_z w (of_z w a)
cast_means w {Γ} d t = let g = and_yes d.good (below w Γ d.expr) t in d.means g.0 ∙ sym (to_z-of_z (fits_of w d g.0 g.1))

pub both_mean : {Γ : Env} {a b : ℤ} (f : ℤ → ℤ → ℤ) (p : Machine Γ a) (q : Machine Γ b) → T (p.good && q.good) → f (eval Γ.vars p.expr) (eval Γ.vars q.expr) ≡ f a b
both_mean f p q t = let g = and_yes p.good q.good t in ap₂ f (p.means g.0) (q.means g.1)

abbrev pub m_cast : (w : Width) {Γ : Env} {a : ℤ} → Machine Γ a → Machine Γ (to_z w (of_z w a))
m_cast w {Γ} d = record { expr = d.expr; good = d.good && below w Γ d.expr; means = cast_means w d }

abbrev pub m_add : {Γ : Env} {a b : ℤ} → Machine Γ a → Machine Γ b → Machine Γ (a +ℤ b)
m_add p q = record { expr = p.expr ⊕ q.expr; good = p.good && q.good; means = both_mean ◌+ℤ◌ p q }

abbrev pub m_mul : {Γ : Env} {a b : ℤ} → Machine Γ a → Machine Γ b → Machine Γ (a *ℤ b)
m_mul p q = record { expr = p.expr ⊗ q.expr; good = p.good && q.good; means = both_mean ◌*ℤ◌ p q }

abbrev pub m_neg : {Γ : Env} {a : ℤ} → Machine Γ a → Machine Γ (neg_ℤ a)
m_neg p = record { expr = neg p.expr; good = p.good; means = λ t. ap neg_ℤ (p.means t) }

abbrev pub m_pos : {Γ : Env} {n : ℕ} → T (numeral n) → Machine Γ (pos n)
m_pos {n} t = record { expr = lit (pos n); good = true; means = λ t. refl }

abbrev pub m_negsuc : {Γ : Env} {n : ℕ} → T (numeral n) → Machine Γ (negsuc n)
m_negsuc {n} t = record { expr = lit (negsuc n); good = true; means = λ t. refl }

abbrev pub m_var : {ρ : List ℤ} {β : List ℕ} {w : Within ρ β} {x : ℤ} → Listed ρ x → Machine (env ρ β w) x
m_var l = record { expr = var l.index; good = true; means = λ t. l.found }

pub ruleset machine = (m_var, here, there, m_add, m_mul, m_neg, m_pos, m_negsuc, m_cast)

pub by_machine : (Γ : Env) {a b : ℤ} (p : Machine Γ a) (q : Machine Γ b) → T (p.good && q.good && is_zero (norm (p.expr ⊖ q.expr))) → a ≡ b
by_machine Γ p q t =
    let g = and_yes (p.good && q.good) (is_zero (norm (p.expr ⊖ q.expr))) t in
    let h = and_yes p.good q.good g.0 in
    sym (p.means h.0) ∙ same_value Γ.vars p.expr q.expr g.1 ∙ q.means h.1

pub fits_machine : (Γ : Env) {w : Width} {a : ℤ} (d : Machine Γ a) → T (d.good && below w Γ d.expr) → SFits w a
fits_machine Γ {w} d t = let g = and_yes d.good (below w Γ d.expr) t in fits_of w d g.0 g.1

-- the absolute value of a term, by the bounds of its variables
pub abs_machine : (Γ : Env) (a : ℤ) {k : ℕ} (d : Machine Γ a) → T (d.good && leb (bound Γ.bounds d.expr) k) → nat_abs a ≤ k
abs_machine Γ a {k} d t =
    let g = and_yes d.good (leb (bound Γ.bounds d.expr) k) t in
    abs_by {ρ = Γ.vars} Γ.bounds a Γ.within (record { expr = d.expr; means = d.means g.0 }) g.1

-- ---- tests of two signed locals, as facts of the numbers

pub test_lt : {w : Width} {x y : ℤ} → SFits w x → SFits w y → lt_z (to_z w (of_z w x)) (to_z w (of_z w y)) ≡ true → x <ℤ y
test_lt f g e = subst₂ (λ x y. x <ℤ y) (to_z-of_z f) (to_z-of_z g) (lt_z_yes (subst T (sym e) tt))

pub test_not_lt : {w : Width} {x y : ℤ} → SFits w x → SFits w y → lt_z (to_z w (of_z w x)) (to_z w (of_z w y)) ≡ false → y ≤ℤ x
test_not_lt f g e = subst₂ (λ x y. y ≤ℤ x) (to_z-of_z f) (to_z-of_z g) (lt_z_no (subst (λ v. T (not v)) (sym e) tt))
