-- `model::kind_of` meets its contract: each arm of the match is a case of `decide`.
use mathlib.Core.Path.{◌≡◌, sym, ap}
use Prim.Native.Nat.{ℕ, ◌<◌, ◌≤◌}
use native.Mathlib.Omega.{arith}
use borrow.Author.Tests.{ne_eqb, lt-ltb, le-ltb}
use Rattle.model.specs.declared.KindByte.TheVariants.{Damaged, Later}
use Rattle.model.specs.Kinds.{decide}
use Rattle.model.proofs.kind_of.Goals as goal

later : (b : ℕ) → (b ≡ 1 → ⊥) → (b ≡ 2 → ⊥) → (b ≡ 3 → ⊥) → (b ≡ 4 → ⊥) → 1 ≤ b → b < 16 → Later ≡ decide b
unfolding decide
later b n1 n2 n3 n4 l h = rw (ne_eqb b 1 n1, ne_eqb b 2 n2, ne_eqb b 3 n3, ne_eqb b 4 n4, ne_eqb b 0 (λ e. omega arith), le-ltb 15 b (omega arith))

above : (b : ℕ) → 16 ≤ b → Damaged ≡ decide b
unfolding decide
above b l = rw (ne_eqb b 1 (λ e. omega arith), ne_eqb b 2 (λ e. omega arith), ne_eqb b 3 (λ e. omega arith), ne_eqb b 4 (λ e. omega arith), ne_eqb b 0 (λ e. omega arith), lt-ltb 15 b (omega arith))

pub returns-in-1 : goal.returns-in-1
unfolding decide
returns-in-1 c = sym (ap decide c.in-1.is)

pub returns-in-2 : goal.returns-in-2
unfolding decide
returns-in-2 c = sym (ap decide c.in-2.is)

pub returns-in-3 : goal.returns-in-3
unfolding decide
returns-in-3 c = sym (ap decide c.in-3.is)

pub returns-in-4 : goal.returns-in-4
unfolding decide
returns-in-4 c = sym (ap decide c.in-4.is)

pub returns-in-5-to-15 : goal.returns-in-5-to-15
returns-in-5-to-15 c = later c.args.byte (λ e. omega arith) (λ e. omega arith) (λ e. omega arith) (λ e. omega arith) (omega arith) (omega arith)

pub returns-in_default : goal.returns-in_default
unfolding decide
returns-in_default c = let e : c.args.byte ≡ 0 = omega arith in sym (ap decide e)

pub returns-in_default-2 : goal.returns-in_default-2
returns-in_default-2 c = above c.args.byte (omega arith)
