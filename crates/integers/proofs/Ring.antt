-- ℤ is a commutative ring: the laws that the library lacks. Each is by induction up by suc_ℤ and down by pred_ℤ, or follows from one that is.
use Rattle.std.proofs.Common.{◌≡◌, zero, suc, ℤ, pos, negsuc, ◌+ℤ◌, ◌-ℤ◌, ◌*ℤ◌, neg_ℤ, sym, ap, ◌∙◌, ap₂}
use lib.IntN.{suc_ℤ, pred_ℤ, one, suc_ℤ-+ℤ, pred_ℤ-+ℤ, +ℤ_idl, +ℤ_assoc, +ℤ_comm, +ℤ_invl, +ℤ_invr, +ℤ-neg_ℤ_cancel, zero-*ℤ, suc_ℤ-*ℤ, pred_ℤ-*ℤ, *ℤ_comm, *ℤ-one}

ℤ_steps : (P : ℤ → Type 0) → P (pos zero) → ((k : ℤ) → P k → P (suc_ℤ k)) → ((k : ℤ) → P k → P (pred_ℤ k)) → (k : ℤ) → P k
ℤ_steps P z s p (pos zero) = z
ℤ_steps P z s p (pos (suc n)) = s (pos n) (ℤ_steps P z s p (pos n))
ℤ_steps P z s p (negsuc zero) = p (pos zero) z
ℤ_steps P z s p (negsuc (suc n)) = p (negsuc n) (ℤ_steps P z s p (negsuc n))

-- ---- sums

pub +ℤ_left_comm : (a b c : ℤ) → a +ℤ (b +ℤ c) ≡ b +ℤ (a +ℤ c)
+ℤ_left_comm a b c = sym (+ℤ_assoc a b c) ∙ ap (λ x. x +ℤ c) (+ℤ_comm a b) ∙ +ℤ_assoc b a c

pub +ℤ_right_comm : (a b c : ℤ) → a +ℤ b +ℤ c ≡ a +ℤ c +ℤ b
+ℤ_right_comm a b c = +ℤ_assoc a b c ∙ ap (λ x. a +ℤ x) (+ℤ_comm b c) ∙ sym (+ℤ_assoc a c b)

pub +ℤ_cancel_right : {a b : ℤ} (c : ℤ) → a +ℤ c ≡ b +ℤ c → a ≡ b
+ℤ_cancel_right {a} {b} c e = sym (+ℤ-neg_ℤ_cancel a c) ∙ ap (λ x. x -ℤ c) e ∙ +ℤ-neg_ℤ_cancel b c

-- ---- negation and differences

-- what adds up to 0 with a is −a
pub neg_unique : (x a : ℤ) → x +ℤ a ≡ pos zero → x ≡ neg_ℤ a
neg_unique x a h = +ℤ_cancel_right a (h ∙ sym (+ℤ_invl a))

pub sub_zero→≡ : {a b : ℤ} → a -ℤ b ≡ pos zero → a ≡ b
sub_zero→≡ {a} {b} h = +ℤ_cancel_right (neg_ℤ b) (h ∙ sym (+ℤ_invr b))

-- ---- products

pub add-*ℤ : (a b k : ℤ) → (a +ℤ b) *ℤ k ≡ a *ℤ k +ℤ b *ℤ k
add-*ℤ a b k =
    ℤ_steps
    (λ a. (a +ℤ b) *ℤ k ≡ a *ℤ k +ℤ b *ℤ k)
    (simp (+ℤ_idl, zero-*ℤ))
    (λ a h. simp (suc_ℤ-+ℤ, suc_ℤ-*ℤ, h, +ℤ_right_comm (a *ℤ k)))
    (λ a h. simp (pred_ℤ-+ℤ, pred_ℤ-*ℤ, h, +ℤ_right_comm (a *ℤ k)))
    a

pub *ℤ_add : (k a b : ℤ) → k *ℤ (a +ℤ b) ≡ k *ℤ a +ℤ k *ℤ b
*ℤ_add k a b = *ℤ_comm k (a +ℤ b) ∙ add-*ℤ a b k ∙ ap₂ ◌+ℤ◌ (*ℤ_comm a k) (*ℤ_comm b k)

pub neg-*ℤ : (a b : ℤ) → neg_ℤ a *ℤ b ≡ neg_ℤ (a *ℤ b)
neg-*ℤ a b = neg_unique (neg_ℤ a *ℤ b) (a *ℤ b) (sym (add-*ℤ (neg_ℤ a) a b) ∙ ap (λ x. x *ℤ b) (+ℤ_invl a) ∙ zero-*ℤ b)

pub *ℤ_neg : (a b : ℤ) → a *ℤ neg_ℤ b ≡ neg_ℤ (a *ℤ b)
*ℤ_neg a b = *ℤ_comm a (neg_ℤ b) ∙ neg-*ℤ b a ∙ ap neg_ℤ (*ℤ_comm b a)

pub *ℤ_sub : (k a b : ℤ) → k *ℤ (a -ℤ b) ≡ k *ℤ a -ℤ k *ℤ b
*ℤ_sub k a b = *ℤ_add k a (neg_ℤ b) ∙ ap (λ x. k *ℤ a +ℤ x) (*ℤ_neg k b)

pub *ℤ_assoc : (a b c : ℤ) → (a *ℤ b) *ℤ c ≡ a *ℤ (b *ℤ c)
*ℤ_assoc a b c =
    ℤ_steps
    (λ a. (a *ℤ b) *ℤ c ≡ a *ℤ (b *ℤ c))
    (simp zero-*ℤ)
    (λ a h. simp (suc_ℤ-*ℤ, add-*ℤ, h))
    (λ a h. simp (pred_ℤ-*ℤ, add-*ℤ, neg-*ℤ, h))
    a

pub one-*ℤ : (a : ℤ) → pos 1 *ℤ a ≡ a
unfolding one
one-*ℤ a = *ℤ_comm (pos 1) a ∙ *ℤ-one a

pub minus_one-*ℤ : (a : ℤ) → negsuc zero *ℤ a ≡ neg_ℤ a
minus_one-*ℤ a = pred_ℤ-*ℤ (pos zero) a ∙ ap (λ x. x -ℤ a) (zero-*ℤ a) ∙ +ℤ_idl (neg_ℤ a)
