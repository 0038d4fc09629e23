-- Small numbers that pass through 64 bits, for the joins.
use mathlib.Core.Bool.{Bool}
use mathlib.Core.Path.{◌≡◌, sym, ap₂, ◌∙◌}
use Prim.Native.Nat.{ℕ}
use native.Mathlib.Omega.{arith}
use lib.Dec.{leb}
use lib.IntN.{ℤ, nat_abs, ◌-ℤ◌}
use Rattle.integers.proofs.Held.{held, held_small}
use Rattle.joins.specs.Joins.{Small}

-- a test of a difference, made on numbers that were read back from 64 bits
pub tested : (n : ℕ) (a b : ℤ) {r : Bool} → Small a → Small b → r ≡ leb (nat_abs (held a -ℤ held b)) n → leb (nat_abs (a -ℤ b)) n ≡ r
tested n a b h k e =
    sym (e ∙ ap₂ (λ (x y : ℤ). leb (nat_abs (x -ℤ y)) n) (held_small a (omega (arith, h))) (held_small b (omega (arith, k))))
