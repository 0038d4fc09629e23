-- Polynomial identities over ℤ by computation. An expression is brought to a nested Horner form, whose value is the expression's;
-- two expressions are equal where the form of their difference is zero, which is a test that computes.
use Rattle.std.proofs.Common.{◌≡◌, ℕ, zero, suc, Bool, true, false, ◌&&◌, T, List, [], ◌∷◌, ℤ, pos, negsuc, ◌+ℤ◌, ◌-ℤ◌, ◌*ℤ◌, neg_ℤ, sym, refl, ap, ◌∙◌, ap₂}
use lib.IntN.{+ℤ_idl, +ℤ_idr, +ℤ_assoc, +ℤ_comm, zero-*ℤ, *ℤ_comm, one, pow}
use mir.Facts.{and_yes}
use Rattle.integers.proofs.Ring.{+ℤ_left_comm, add-*ℤ, *ℤ_add, *ℤ_assoc, sub_zero→≡, one-*ℤ, minus_one-*ℤ}

-- ---- expressions

infixl 60 ◌⊕◌ ◌⊖◌
infixl 70 ◌⊗◌
infixl 80 ◌↑◌
pub data Expr : Type 0 where
  var : ℕ → Expr
  lit : ℤ → Expr
  ◌⊕◌ : Expr → Expr → Expr
  ◌⊖◌ : Expr → Expr → Expr
  ◌⊗◌ : Expr → Expr → Expr
  neg : Expr → Expr
  ◌↑◌ : Expr → ℕ → Expr

abbrev pub first : List ℤ → ℤ
first [] = pos zero
first (x ∷ ρ) = x

abbrev pub others : List ℤ → List ℤ
others [] = []
others (x ∷ ρ) = ρ

-- A variable that the list does not have is 0, so every law holds of every list.
abbrev pub lookup : List ℤ → ℕ → ℤ
lookup ρ zero = first ρ
lookup ρ (suc i) = lookup (others ρ) i

abbrev pub eval : List ℤ → Expr → ℤ
eval ρ (var i) = lookup ρ i
eval ρ (lit k) = k
eval ρ (a ⊕ b) = eval ρ a +ℤ eval ρ b
eval ρ (a ⊖ b) = eval ρ a -ℤ eval ρ b
eval ρ (a ⊗ b) = eval ρ a *ℤ eval ρ b
eval ρ (neg a) = neg_ℤ (eval ρ a)
eval ρ (a ↑ k) = pow (eval ρ a) k

-- ---- the normal form

-- `horner p q` is p · x + q, where x is the first variable and q has only the variables after it.
pub data Poly : Type 0 where
  con : ℤ → Poly
  horner : Poly → Poly → Poly

abbrev pub value : List ℤ → Poly → ℤ
value ρ (con k) = k
value ρ (horner p q) = value ρ p *ℤ first ρ +ℤ value (others ρ) q

-- p · x + q, where a leading part that is 0 is dropped from a constant
abbrev pub join : Poly → Poly → Poly
join (horner a b) q = horner (horner a b) q
join (con (pos zero)) (con k) = con k
join (con (pos zero)) (horner a b) = horner (con (pos zero)) (horner a b)
join (con (pos (suc n))) q = horner (con (pos (suc n))) q
join (con (negsuc n)) q = horner (con (negsuc n)) q

abbrev pub add_const : ℤ → Poly → Poly
add_const a (con b) = con (a +ℤ b)
add_const a (horner p q) = horner p (add_const a q)

abbrev pub add : Poly → Poly → Poly
add (con a) q = add_const a q
add (horner p q) (con b) = horner p (add_const b q)
add (horner p q) (horner p' q') = join (add p p') (add q q')

abbrev pub times_const : ℤ → Poly → Poly
times_const a (con b) = con (a *ℤ b)
times_const a (horner p q) = horner (times_const a p) (times_const a q)

abbrev pub scale : ℤ → Poly → Poly
scale (pos zero) q = con (pos zero)
scale (pos (suc n)) q = times_const (pos (suc n)) q
scale (negsuc n) q = times_const (negsuc n) q

-- f at each coefficient of the first variable's powers
abbrev pub map_coeffs : (Poly → Poly) → Poly → Poly
map_coeffs f (con b) = join (con (pos zero)) (f (con b))
map_coeffs f (horner p q) = join (map_coeffs f p) (f q)

abbrev pub mul : Poly → Poly → Poly
mul (con a) q = scale a q
mul (horner p p₀) q = add (join (mul p q) (con (pos zero))) (map_coeffs (mul p₀) q)

abbrev pub variable : ℕ → Poly
variable zero = horner (con (pos 1)) (con (pos zero))
variable (suc i) = horner (con (pos zero)) (variable i)

abbrev pub power : Poly → ℕ → Poly
power p zero = con (pos 1)
power p (suc k) = mul (power p k) p

abbrev pub norm : Expr → Poly
norm (var i) = variable i
norm (lit k) = con k
norm (a ⊕ b) = add (norm a) (norm b)
norm (a ⊖ b) = add (norm a) (scale (negsuc zero) (norm b))
norm (a ⊗ b) = mul (norm a) (norm b)
norm (neg a) = scale (negsuc zero) (norm a)
norm (a ↑ k) = power (norm a) k

abbrev pub is_zero : Poly → Bool
is_zero (con (pos zero)) = true
is_zero (con (pos (suc n))) = false
is_zero (con (negsuc n)) = false
is_zero (horner p q) = is_zero p && is_zero q

-- ---- each operation has the value that it should

add_const_value : (ρ : List ℤ) (a : ℤ) (p : Poly) → value ρ (add_const a p) ≡ a +ℤ value ρ p
add_const_value ρ a (con b) = refl
add_const_value ρ a (horner p q) =
    ap (λ x. value ρ p *ℤ first ρ +ℤ x) (add_const_value (others ρ) a q) ∙ +ℤ_left_comm (value ρ p *ℤ first ρ) a (value (others ρ) q)

join_value : (ρ : List ℤ) (p q : Poly) → value ρ (join p q) ≡ value ρ p *ℤ first ρ +ℤ value (others ρ) q
join_value ρ (horner a b) q = refl
join_value ρ (con (pos zero)) (con k) = sym (ap (λ x. x +ℤ k) (zero-*ℤ (first ρ)) ∙ +ℤ_idl k)
join_value ρ (con (pos zero)) (horner a b) = refl
join_value ρ (con (pos (suc n))) q = refl
join_value ρ (con (negsuc n)) q = refl

add_regroup : (a b c d x : ℤ) → (a +ℤ b) *ℤ x +ℤ (c +ℤ d) ≡ (a *ℤ x +ℤ c) +ℤ (b *ℤ x +ℤ d)
add_regroup a b c d x = simp (add-*ℤ, +ℤ_assoc, +ℤ_left_comm, +ℤ_comm)

add_value : (ρ : List ℤ) (p q : Poly) → value ρ (add p q) ≡ value ρ p +ℤ value ρ q
add_value ρ (con a) q = add_const_value ρ a q
add_value ρ (horner p q) (con b) =
    ap (λ x. value ρ p *ℤ first ρ +ℤ x) (add_const_value (others ρ) b q ∙ +ℤ_comm b (value (others ρ) q))
    ∙ sym (+ℤ_assoc (value ρ p *ℤ first ρ) (value (others ρ) q) b)
add_value ρ (horner p q) (horner p' q') =
    join_value ρ (add p p') (add q q')
    ∙ ap₂ (λ x y. x *ℤ first ρ +ℤ y) (add_value ρ p p') (add_value (others ρ) q q')
    ∙ add_regroup (value ρ p) (value ρ p') (value (others ρ) q) (value (others ρ) q') (first ρ)

scale_regroup : (a b c x : ℤ) → (a *ℤ b) *ℤ x +ℤ a *ℤ c ≡ a *ℤ (b *ℤ x +ℤ c)
scale_regroup a b c x = simp (*ℤ_add, *ℤ_assoc)

times_const_value : (ρ : List ℤ) (a : ℤ) (p : Poly) → value ρ (times_const a p) ≡ a *ℤ value ρ p
times_const_value ρ a (con b) = refl
times_const_value ρ a (horner p q) =
    ap₂ (λ x y. x *ℤ first ρ +ℤ y) (times_const_value ρ a p) (times_const_value (others ρ) a q)
    ∙ scale_regroup a (value ρ p) (value (others ρ) q) (first ρ)

scale_value : (ρ : List ℤ) (a : ℤ) (p : Poly) → value ρ (scale a p) ≡ a *ℤ value ρ p
scale_value ρ (pos zero) q = sym (zero-*ℤ (value ρ q))
scale_value ρ (pos (suc n)) q = times_const_value ρ (pos (suc n)) q
scale_value ρ (negsuc n) q = times_const_value ρ (negsuc n) q

map_coeffs_value : (ρ : List ℤ) (f : Poly → Poly) (v : ℤ) → ((q : Poly) → value (others ρ) (f q) ≡ v *ℤ value (others ρ) q) → (p : Poly) → value ρ (map_coeffs f p) ≡ v *ℤ value ρ p
map_coeffs_value ρ f v h (con b) =
    join_value ρ (con (pos zero)) (f (con b))
    ∙ ap (λ x. x +ℤ value (others ρ) (f (con b))) (zero-*ℤ (first ρ))
    ∙ +ℤ_idl (value (others ρ) (f (con b)))
    ∙ h (con b)
map_coeffs_value ρ f v h (horner p q) =
    join_value ρ (map_coeffs f p) (f q)
    ∙ ap₂ (λ x y. x *ℤ first ρ +ℤ y) (map_coeffs_value ρ f v h p) (h q)
    ∙ scale_regroup v (value ρ p) (value (others ρ) q) (first ρ)

mul_regroup : (p q r x : ℤ) → ((p *ℤ q) *ℤ x +ℤ pos zero) +ℤ r *ℤ q ≡ (p *ℤ x +ℤ r) *ℤ q
mul_regroup p q r x = simp (+ℤ_idr, add-*ℤ, *ℤ_assoc, *ℤ_comm q x)

mul_value : (ρ : List ℤ) (p q : Poly) → value ρ (mul p q) ≡ value ρ p *ℤ value ρ q
mul_value ρ (con a) q = scale_value ρ a q
mul_value ρ (horner p p₀) q =
    add_value ρ (join (mul p q) (con (pos zero))) (map_coeffs (mul p₀) q)
    ∙ ap (λ x. x +ℤ value ρ (map_coeffs (mul p₀) q)) (join_value ρ (mul p q) (con (pos zero)))
    ∙ ap₂ (λ x y. (x *ℤ first ρ +ℤ pos zero) +ℤ y) (mul_value ρ p q) (map_coeffs_value ρ (mul p₀) (value (others ρ) p₀) (mul_value (others ρ) p₀) q)
    ∙ mul_regroup (value ρ p) (value ρ q) (value (others ρ) p₀) (first ρ)

variable_value : (ρ : List ℤ) (i : ℕ) → value ρ (variable i) ≡ lookup ρ i
variable_value ρ zero = +ℤ_idr (pos 1 *ℤ first ρ) ∙ one-*ℤ (first ρ)
variable_value ρ (suc i) =
    ap (λ x. x +ℤ value (others ρ) (variable i)) (zero-*ℤ (first ρ)) ∙ +ℤ_idl (value (others ρ) (variable i)) ∙ variable_value (others ρ) i

power_value : (ρ : List ℤ) (p : Poly) (x : ℤ) → value ρ p ≡ x → (k : ℕ) → value ρ (power p k) ≡ pow x k
unfolding pow one
power_value ρ p x h zero = refl
power_value ρ p x h (suc k) = mul_value ρ (power p k) p ∙ ap₂ ◌*ℤ◌ (power_value ρ p x h k) h

minus_value : (ρ : List ℤ) (e : Expr) → value ρ (norm e) ≡ eval ρ e → value ρ (scale (negsuc zero) (norm e)) ≡ neg_ℤ (eval ρ e)
minus_value ρ e h = scale_value ρ (negsuc zero) (norm e) ∙ minus_one-*ℤ (value ρ (norm e)) ∙ ap neg_ℤ h

pub norm_value : (ρ : List ℤ) (e : Expr) → value ρ (norm e) ≡ eval ρ e
norm_value ρ (var i) = variable_value ρ i
norm_value ρ (lit k) = refl
norm_value ρ (a ⊕ b) = add_value ρ (norm a) (norm b) ∙ ap₂ ◌+ℤ◌ (norm_value ρ a) (norm_value ρ b)
norm_value ρ (a ⊖ b) = add_value ρ (norm a) (scale (negsuc zero) (norm b)) ∙ ap₂ ◌+ℤ◌ (norm_value ρ a) (minus_value ρ b (norm_value ρ b))
norm_value ρ (a ⊗ b) = mul_value ρ (norm a) (norm b) ∙ ap₂ ◌*ℤ◌ (norm_value ρ a) (norm_value ρ b)
norm_value ρ (neg a) = minus_value ρ a (norm_value ρ a)
norm_value ρ (a ↑ k) = power_value ρ (norm a) (eval ρ a) (norm_value ρ a) k

is_zero_value : (ρ : List ℤ) (p : Poly) → T (is_zero p) → value ρ p ≡ pos zero
is_zero_value ρ (con (pos zero)) t = refl
is_zero_value ρ (con (pos (suc n))) t = absurd t
is_zero_value ρ (con (negsuc n)) t = absurd t
is_zero_value ρ (horner p q) t =
    let both = and_yes (is_zero p) (is_zero q) t in
    ap₂ (λ x y. x *ℤ first ρ +ℤ y) (is_zero_value ρ p both.0) (is_zero_value (others ρ) q both.1)
    ∙ +ℤ_idr (pos zero *ℤ first ρ)
    ∙ zero-*ℤ (first ρ)

-- Expressions whose difference has the form 0 have one value.
pub same_value : (ρ : List ℤ) (e f : Expr) → T (is_zero (norm (e ⊖ f))) → eval ρ e ≡ eval ρ f
same_value ρ e f t = sub_zero→≡ (sym (norm_value ρ (e ⊖ f)) ∙ is_zero_value ρ (norm (e ⊖ f)) t)
