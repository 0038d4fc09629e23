-- The order of ℤ. A whole number a is `pos_part a` less `neg_part a`, of which one is 0; so a fact of order, a sum, a difference or a multiple over ℤ
-- is a linear fact over ℕ, which `omega` proves: `omega (order, sum a b)` takes and proves `≤ℤ`, `<ℤ` and `≡` where the sums in sight are listed.
use Rattle.std.proofs.Common.{◌≡◌, ℕ, zero, suc, pred, ◌+◌, ◌-◌, ◌*◌, ◌<◌, ◌≤◌, min, Bool, true, false, cond, not, T, ltb, ◌⊎◌, ◌↔◌, ℤ, pos, negsuc, ◌+ℤ◌, ◌-ℤ◌, ◌*ℤ◌, neg_ℤ, nat_abs, ◌≤ℤ◌, ◌<ℤ◌, sym, refl, ap, ◌∙◌, subst, inl, inr, zero-le, mul-zero, arith, le→leb, ltb→lt, lt→ltb, leb→le, nltb→le}
use native.Mathlib.Decide.{dec_le}
use lib.IntN.{sub_ℕ}
use lib.Signed.{le_z, lt_z, mag}
use Rattle.integers.proofs.Ring.{*ℤ_sub}

abbrev pub pos_part : ℤ → ℕ
pos_part (pos k) = k
pos_part (negsuc k) = 0

abbrev pub neg_part : ℤ → ℕ
neg_part (pos k) = 0
neg_part (negsuc k) = suc k

-- ---- from ℤ to ℕ and back

le↔ : (a b : ℤ) → T (le_z a b) ↔ pos_part a + neg_part b ≤ pos_part b + neg_part a
le↔ (pos a) (pos b) = (λ h. omega (arith, leb→le), λ h. omega (arith, le→leb))
le↔ (pos a) (negsuc b) = (absurd, λ h. omega arith)
le↔ (negsuc a) (pos b) = (λ h. omega arith, λ h. tt)
le↔ (negsuc a) (negsuc b) = (λ h. omega (arith, leb→le), λ h. omega (arith, le→leb))

lt↔ : (a b : ℤ) → T (lt_z a b) ↔ pos_part a + neg_part b < pos_part b + neg_part a
lt↔ (pos a) (pos b) = (λ h. omega (arith, ltb→lt), λ h. omega (arith, lt→ltb))
lt↔ (pos a) (negsuc b) = (absurd, λ h. omega arith)
lt↔ (negsuc a) (pos b) = (λ h. omega arith, λ h. tt)
lt↔ (negsuc a) (negsuc b) = (λ h. omega (arith, ltb→lt), λ h. omega (arith, lt→ltb))

eq←' : (a b : ℤ) → pos_part a + neg_part b ≡ pos_part b + neg_part a → a ≡ b
eq←' (pos a) (pos b) h = ap pos (omega arith)
eq←' (pos a) (negsuc b) h = absurd (omega arith)
eq←' (negsuc a) (pos b) h = absurd (omega arith)
eq←' (negsuc a) (negsuc b) h = ap negsuc (omega arith)

pub le→ : {a b : ℤ} → a ≤ℤ b → pos_part a + neg_part b ≤ pos_part b + neg_part a
le→ {a} {b} h = (le↔ a b).0 h.le

pub le← : {a b : ℤ} → pos_part a + neg_part b ≤ pos_part b + neg_part a → a ≤ℤ b
le← {a} {b} h = record { le = (le↔ a b).1 h }

pub lt→ : {a b : ℤ} → a <ℤ b → pos_part a + neg_part b < pos_part b + neg_part a
lt→ {a} {b} h = (lt↔ a b).0 h.lt

pub lt← : {a b : ℤ} → pos_part a + neg_part b < pos_part b + neg_part a → a <ℤ b
lt← {a} {b} h = record { lt = (lt↔ a b).1 h }

pub eq→ : {a b : ℤ} → a ≡ b → pos_part a + neg_part b ≡ pos_part b + neg_part a
eq→ {a} e = subst (λ x. pos_part a + neg_part x ≡ pos_part x + neg_part a) e refl

pub eq← : {a b : ℤ} → pos_part a + neg_part b ≡ pos_part b + neg_part a → a ≡ b
eq← {a} {b} h = eq←' a b h

pub ruleset order = (arith, le→, le←, lt→, lt←, eq→, eq←)

-- ---- the operations, as linear facts

subℕ_fact : (a b : ℕ) → pos_part (sub_ℕ a b) + b ≡ neg_part (sub_ℕ a b) + a
subℕ_fact a b = go (ltb a b) (λ t. ltb→lt a b t) (λ t. nltb→le a b t)
  where
    go : (c : Bool) → (T c → a < b) → (T (not c) → b ≤ a) → pos_part (cond c (negsuc (b - suc a)) (pos (a - b))) + b ≡ neg_part (cond c (negsuc (b - suc a)) (pos (a - b))) + a
    go true f g = omega (arith, f tt)
    go false f g = omega (arith, g tt)

pub sum : (a b : ℤ) → pos_part (a +ℤ b) + neg_part a + neg_part b ≡ neg_part (a +ℤ b) + pos_part a + pos_part b
sum (pos a) (pos b) = omega arith
sum (pos a) (negsuc b) = omega (arith, subℕ_fact a (suc b))
sum (negsuc a) (pos b) = omega (arith, subℕ_fact b (suc a))
sum (negsuc a) (negsuc b) = omega arith

pub negation : (a : ℤ) → (pos_part (neg_ℤ a) ≡ neg_part a) × (neg_part (neg_ℤ a) ≡ pos_part a)
negation (pos zero) = (refl, refl)
negation (pos (suc k)) = (refl, refl)
negation (negsuc k) = (refl, refl)

pub difference : (a b : ℤ) → pos_part (a -ℤ b) + neg_part a + pos_part b ≡ neg_part (a -ℤ b) + pos_part a + neg_part b
difference a b = omega (arith, sum a (neg_ℤ b), negation b)

-- a multiple by a natural number
pub multiple : (k : ℕ) (a : ℤ) → (pos_part (pos k *ℤ a) ≡ k * pos_part a) × (neg_part (pos k *ℤ a) ≡ k * neg_part a)
multiple k (pos a) = (refl, sym (mul-zero k))
multiple k (negsuc a) = ((negation (pos (k * suc a))).0 ∙ sym (mul-zero k), (negation (pos (k * suc a))).1)

-- absolute value and magnitude; and one of the two parts is 0
pub parts : (a : ℤ) → (nat_abs a ≡ pos_part a + neg_part a) × (mag a ≡ pos_part a + pred (neg_part a)) × (min (pos_part a) (neg_part a) ≡ 0)
parts (pos k) = (omega arith, omega arith, omega arith)
parts (negsuc k) = (omega arith, omega arith, omega arith)

-- ---- the order's own laws

pub ≤ℤ_trans : {a b c : ℤ} → a ≤ℤ b → b ≤ℤ c → a ≤ℤ c
≤ℤ_trans h k = omega order

pub ≤ℤ-<ℤ_trans : {a b c : ℤ} → a ≤ℤ b → b <ℤ c → a <ℤ c
≤ℤ-<ℤ_trans h k = omega order

pub ≤ℤ_antisym : {a b : ℤ} → a ≤ℤ b → b ≤ℤ a → a ≡ b
≤ℤ_antisym h k = omega order

pub ≤ℤ_total : (a b : ℤ) → (a ≤ℤ b) ⊎ (b <ℤ a)
≤ℤ_total a b = go (dec_le (pos_part a + neg_part b) (pos_part b + neg_part a))
  where
    go : Dec (pos_part a + neg_part b ≤ pos_part b + neg_part a) → (a ≤ℤ b) ⊎ (b <ℤ a)
    go (yes h) = inl (le← h)
    go (no h) = inr (lt← (omega arith))

-- ---- the order of ℕ within ℤ

-- 0 is not 1; `cc` brings two different constructors to that: `clash cc`
pub clash : {A : Type 0} → ◌≡◌ {A = ℕ} 0 1 → A
clash z = absurd (omega arith)

pub pos-≤ : {m n : ℕ} → m ≤ n → pos m ≤ℤ pos n
pos-≤ h = omega order

pub ≤-pos : {m n : ℕ} → pos m ≤ℤ pos n → m ≤ n
≤-pos h = omega order

pub pos-< : {m n : ℕ} → m < n → pos m <ℤ pos n
pos-< h = omega order

pub <-pos : {m n : ℕ} → pos m <ℤ pos n → m < n
<-pos h = omega order

-- ---- the order and the operations

pub 0≤-pos : (k : ℕ) → pos 0 ≤ℤ pos k
0≤-pos k = pos-≤ zero-le

pub 0≤-sub : {a b : ℤ} → a ≤ℤ b → pos 0 ≤ℤ (b -ℤ a)
0≤-sub {a} {b} h = omega (order, difference b a)

pub sub_0≤ : {a b : ℤ} → pos 0 ≤ℤ (b -ℤ a) → a ≤ℤ b
sub_0≤ {a} {b} h = omega (order, difference b a)

pub 0≤-mul : {a b : ℤ} → pos 0 ≤ℤ a → pos 0 ≤ℤ b → pos 0 ≤ℤ (a *ℤ b)
0≤-mul {a = pos a} {b = pos b} h k = 0≤-pos (a * b)
0≤-mul {a = pos a} {b = negsuc b} h k = absurd k.le
0≤-mul {a = negsuc a} {b} h k = absurd h.le

pub 0≤-square : (a : ℤ) → pos 0 ≤ℤ (a *ℤ a)
0≤-square (pos a) = 0≤-pos (a * a)
0≤-square (negsuc a) = 0≤-pos (suc a * suc a)

pub ≤ℤ_mul_left : {a b : ℤ} (k : ℤ) → pos 0 ≤ℤ k → a ≤ℤ b → (k *ℤ a) ≤ℤ (k *ℤ b)
≤ℤ_mul_left {a} {b} k z h = sub_0≤ (subst (λ x. pos 0 ≤ℤ x) (*ℤ_sub k b a) (0≤-mul z (0≤-sub h)))

-- A certificate: b − a is a number k that is known not to be negative.
pub ≤ℤ_by : {a b k : ℤ} → pos 0 ≤ℤ k → b -ℤ a ≡ k → a ≤ℤ b
≤ℤ_by {a} {b} {k} h e = omega (order, difference b a, e)
