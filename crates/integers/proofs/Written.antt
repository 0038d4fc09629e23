-- Whole-number terms written as expressions, found by `search`, so that a polynomial identity is one line:
--   identity {ρ = a ∷ b ∷ []} (search writing depth 20) (search writing depth 20) tt
-- Whatever is no sum, difference, product, power or literal is listed in ρ, also `pos k` for a natural number k that is no literal.
use Rattle.std.proofs.Common.{◌≡◌, ℕ, zero, suc, ◌+◌, ◌*◌, ◌^◌, Bool, T, ltb, List, ◌∷◌, ℤ, pos, negsuc, ◌+ℤ◌, ◌*ℤ◌, neg_ℤ, nat_abs, sym, refl, ap, ◌∙◌, ap₂, pow-suc}
use native.Mathlib.Nat.{pow-zero}
use lib.IntN.{pow, one}
use Rattle.integers.proofs.Identity.{Expr, lookup, var, lit, ◌⊕◌, ◌⊖◌, ◌⊗◌, ◌↑◌, neg, eval, is_zero, norm, same_value}

-- The expression is a field and no index, so that `search` can find it.
pub record Written (ρ : List ℤ) (a : ℤ) : Type 0 where
  pub expr : Expr
  pub means : eval ρ expr ≡ a

-- ---- the operations

abbrev pub w_add : {ρ : List ℤ} {a b : ℤ} → Written ρ a → Written ρ b → Written ρ (a +ℤ b)
w_add p q = record { expr = p.expr ⊕ q.expr; means = ap₂ ◌+ℤ◌ p.means q.means }

abbrev pub w_mul : {ρ : List ℤ} {a b : ℤ} → Written ρ a → Written ρ b → Written ρ (a *ℤ b)
w_mul p q = record { expr = p.expr ⊗ q.expr; means = ap₂ ◌*ℤ◌ p.means q.means }

abbrev pub w_neg : {ρ : List ℤ} {a : ℤ} → Written ρ a → Written ρ (neg_ℤ a)
w_neg p = record { expr = neg p.expr; means = ap neg_ℤ p.means }

abbrev pub w_pow : {ρ : List ℤ} {a : ℤ} (k : ℕ) → Written ρ a → Written ρ (pow a k)
w_pow k p = record { expr = p.expr ↑ k; means = ap (λ x. pow x k) p.means }

-- ---- natural numbers within ℤ

pub pos_pow : (a k : ℕ) → pow (pos a) k ≡ pos (a ^ k)
unfolding pow one
pos_pow a zero = ap pos (sym (pow-zero a))
pos_pow a (suc k) = ap (λ x. x *ℤ pos a) (pos_pow a k) ∙ ap pos (sym (pow-suc a k))

abbrev pub w_pos_add : {ρ : List ℤ} {a b : ℕ} → Written ρ (pos a) → Written ρ (pos b) → Written ρ (pos (a + b))
w_pos_add p q = record { expr = p.expr ⊕ q.expr; means = ap₂ ◌+ℤ◌ p.means q.means }

abbrev pub w_pos_mul : {ρ : List ℤ} {a b : ℕ} → Written ρ (pos a) → Written ρ (pos b) → Written ρ (pos (a * b))
w_pos_mul p q = record { expr = p.expr ⊗ q.expr; means = ap₂ ◌*ℤ◌ p.means q.means }

abbrev pub w_pos_pow : {ρ : List ℤ} {a : ℕ} (k : ℕ) → Written ρ (pos a) → Written ρ (pos (a ^ k))
w_pos_pow {a} k p = record { expr = p.expr ↑ k; means = ap (λ x. pow x k) p.means ∙ pos_pow a k }

-- ---- literals. The test computes at a numeral alone, so that no term with a variable in it passes for one.

abbrev pub numeral : ℕ → Bool
numeral n = ltb n (2 ^ 256)

abbrev pub w_pos : {ρ : List ℤ} {n : ℕ} → T (numeral n) → Written ρ (pos n)
w_pos {n} t = record { expr = lit (pos n); means = refl }

abbrev pub w_negsuc : {ρ : List ℤ} {n : ℕ} → T (numeral n) → Written ρ (negsuc n)
w_negsuc {n} t = record { expr = lit (negsuc n); means = refl }

-- ---- the listed terms

pub record Listed (ρ : List ℤ) (x : ℤ) : Type 0 where
  pub index : ℕ
  pub found : lookup ρ index ≡ x

abbrev pub here : {ρ : List ℤ} {x : ℤ} → Listed (x ∷ ρ) x
here = record { index = 0; found = refl }

abbrev pub there : {ρ : List ℤ} {x y : ℤ} → Listed ρ x → Listed (y ∷ ρ) x
there l = record { index = suc l.index; found = l.found }

abbrev pub w_var : {ρ : List ℤ} {x : ℤ} → Listed ρ x → Written ρ x
w_var l = record { expr = var l.index; means = l.found }

pub ruleset writing = (w_var, here, there, w_add, w_mul, w_neg, w_pow, w_pos_add, w_pos_mul, w_pos_pow, w_pos, w_negsuc)

-- ---- identities

pub identity : {ρ : List ℤ} {a b : ℤ} (p : Written ρ a) (q : Written ρ b) → T (is_zero (norm (p.expr ⊖ q.expr))) → a ≡ b
identity {ρ} p q t = sym p.means ∙ same_value ρ p.expr q.expr t ∙ q.means

-- the same over ℕ, by way of ℤ
pub identityℕ : {ρ : List ℤ} {a b : ℕ} (p : Written ρ (pos a)) (q : Written ρ (pos b)) → T (is_zero (norm (p.expr ⊖ q.expr))) → a ≡ b
identityℕ p q t = ap nat_abs (identity p q t)
