-- Tests as facts: a test of two tests holds exactly when the facts of both do.
use Rattle.std.proofs.Common.{◌≡◌, ℕ, ◌<◌, ◌≤◌, Bool, true, false, ◌&&◌, ◌||◌, eqb, leb, ◌⊎◌, ◌↔◌, ℤ, pos, negsuc, sym, refl, inl, inr, arith, ltb-true, eq-eqb, eqb-true, le-leb, leb-true}
use mathlib.Core.Bool.{and-eq-true_iff, false≢true}
use lib.Signed.{non_neg, lt_z}

pub eq_test : (m n : ℕ) → (eqb m n ≡ true) ↔ (m ≡ n)
eq_test m n = (eqb-true m n, eq-eqb m n)

pub le_test : (m n : ℕ) → (leb m n ≡ true) ↔ (m ≤ n)
le_test m n = (leb-true m n, le-leb m n)

pub both_tests : {a b : Bool} {P Q : Type 0} → ((a ≡ true) ↔ P) → ((b ≡ true) ↔ Q) → ((a && b) ≡ true) ↔ (P × Q)
both_tests {a} {b} p q = (
  λ e. let h = (and-eq-true_iff a b).0 e in (p.0 h.0, q.0 h.1),
  λ h. (and-eq-true_iff a b).1 (p.1 h.0, q.1 h.1),
)

pub either_test : {P : Type 0} (a b : Bool) → (a ≡ true → P) → (b ≡ true → P) → (a || b) ≡ true → P
either_test true b f g e = f refl
either_test false b f g e = g e

pub same_test : (a b : Bool) → ((a ≡ true) ↔ (b ≡ true)) → a ≡ b
same_test true b h = sym (h.0 refl)
same_test false true h = h.1 refl
same_test false false h = refl

pub and_fails : (a b : Bool) → ((a && b) ≡ false) ↔ ((a ≡ false) ⊎ (b ≡ false))
and_fails true b = ((λ e. inr e), go)
  where
    go : (true ≡ false) ⊎ (b ≡ false) → b ≡ false
    go (inl e) = absurd (false≢true (sym e))
    go (inr e) = e
and_fails false b = ((λ e. inl refl), (λ e. refl))

-- ---- the sign of a number

pub below_0 : (z : ℤ) → lt_z z (pos 0) ≡ true → non_neg z ≡ false
below_0 (pos n) h = let k : n < 0 = ltb-true n 0 h in absurd (omega arith)
below_0 (negsuc n) h = refl

pub not_below_0 : (z : ℤ) → lt_z z (pos 0) ≡ false → non_neg z ≡ true
not_below_0 (pos n) h = refl
not_below_0 (negsuc n) h = sym h
