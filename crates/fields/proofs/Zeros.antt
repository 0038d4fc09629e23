-- The test of zeros: as a fold over the bytes makes it; and of a part, which is then as many zeros as it is long.
use Prim.Native.Nat.{ℕ, zero, suc, ◌+◌, ◌≤◌}
use mathlib.Core.Bool.{Bool, true, false, ◌&&◌, and-eq-true_iff}
use mathlib.Core.List.{List, [], ◌∷◌}
use mathlib.Core.Logic.{◌↔◌}
use mathlib.Core.Path.{◌≡◌, refl}
use borrow.Author.Tests.{eqb-true}
use lib.Dec.{eqb}
use lib.ListN.{length, replicate}
use Rattle.std.specs.List.{fold}
use Rattle.model.specs.Records.{part, all_zero}
use Rattle.fields.proofs.PartsOf.{length_part}

pub zeros_folded : (zero : Bool) (l : List ℕ) → fold (λ z b. z && eqb b 0) zero l ≡ zero && all_zero l
unfolding all_zero
zeros_folded true [] = refl
zeros_folded false [] = refl
zeros_folded true (b ∷ l) = zeros_folded (eqb b 0) l
zeros_folded false (b ∷ l) = zeros_folded false l

all_zero→zeros : (l : List ℕ) → all_zero l ≡ true → l ≡ replicate (length l) 0
unfolding all_zero
all_zero→zeros [] e = refl
all_zero→zeros (b ∷ l) e =
    let h = (and-eq-true_iff (eqb b 0) (all_zero l)).0 e in
    let z = eqb-true b 0 h.0 in
    let r = all_zero→zeros l h.1 in
    cc

zeros→all_zero : (n : ℕ) → all_zero (replicate n 0) ≡ true
unfolding all_zero
zeros→all_zero zero = refl
zeros→all_zero (suc n) = zeros→all_zero n

pub part_zero : (l : List ℕ) (at n : ℕ) → at + n ≤ length l → (all_zero (part l at n) ≡ true) ↔ (part l at n ≡ replicate n 0)
part_zero l at n h = (λ e. rw (length_part l at n h) at (all_zero→zeros (part l at n) e), λ e. rw e (zeros→all_zero n))
