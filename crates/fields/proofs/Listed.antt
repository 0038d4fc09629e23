-- A list of a known length, written out: so that what is defined over it computes.
use Prim.Native.Nat.{ℕ, zero, suc}
use native.Mathlib.Omega.{arith}
use mathlib.Core.List.{List, [], ◌∷◌}
use mathlib.Core.Path.{◌≡◌, refl, ap}
use lib.ListN.{length, get_or}

unfoldable pub list_of : ℕ → (ℕ → ℕ) → List ℕ
list_of zero f = []
list_of (suc n) f = f 0 ∷ list_of n (λ i. f (suc i))

pub written_out : (l : List ℕ) (n : ℕ) → length l ≡ n → l ≡ list_of n (λ i. get_or l i 0)
unfolding list_of
written_out [] zero e = refl
written_out [] (suc n) e = absurd (omega arith)
written_out (x ∷ l) zero e = absurd (omega arith)
written_out (x ∷ l) (suc n) e = ap (λ (m : List ℕ). x ∷ m) (written_out l n (omega arith))
