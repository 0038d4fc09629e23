-- A kind byte that is refused with neither 4 nor 5 is that of its kind.
use Prim.Native.Nat.{ℕ, zero, suc, ◌<◌}
use native.Mathlib.Omega.{arith}
use mathlib.Core.Bool.{Bool, true, false, not, cond, false≢true}
use mathlib.Core.Path.{◌≡◌, refl, subst}
use borrow.Author.Tests.{ne_eqb}
use lib.Dec.{ltb}
use Rattle.model.specs.declared.KindByte.TheVariants.{Damaged, Later}
use Rattle.model.specs.Kinds.{decide, kind_byte}
use Rattle.model.specs.Acceptance.{is_damaged, is_later, kind_in}

no_kind : (byte : ℕ) → 4 < byte → decide byte ≡ cond (ltb 15 byte) Damaged Later
unfolding decide
no_kind byte h = rw (ne_eqb byte 1 (omega arith), ne_eqb byte 2 (omega arith), ne_eqb byte 3 (omega arith), ne_eqb byte 4 (omega arith), ne_eqb byte 0 (omega arith))

pub kind_same : (byte : ℕ) → not (is_damaged (decide byte)) ≡ true → not (is_later (decide byte)) ≡ true → kind_byte (kind_in (decide byte)) ≡ byte
unfolding decide is_damaged is_later kind_in kind_byte
kind_same zero p q = absurd (false≢true p)
kind_same (suc zero) p q = refl
kind_same (suc (suc zero)) p q = refl
kind_same (suc (suc (suc zero))) p q = refl
kind_same (suc (suc (suc (suc zero)))) p q = refl
kind_same (suc (suc (suc (suc (suc n))))) p q = absurd (none (ltb 15 byte) (subst (λ k. not (is_damaged k) ≡ true) e p) (subst (λ k. not (is_later k) ≡ true) e q))
  where
    byte : ℕ
    byte = suc (suc (suc (suc (suc n))))

    e : decide byte ≡ cond (ltb 15 byte) Damaged Later
    e = no_kind byte (omega arith)

    none : (b : Bool) → not (is_damaged (cond b Damaged Later)) ≡ true → not (is_later (cond b Damaged Later)) ≡ true → ⊥
    none true p q = false≢true p
    none false p q = false≢true q
