-- The rules of all places hold exactly when those of each place do, by induction on the number of places.
use Prim.Native.Nat.{ℕ, zero, suc, ◌+◌, ◌<◌}
use mathlib.Core.Bool.{Bool, true}
use mathlib.Core.List.{List, [], ◌∷◌, ◌++◌}
use mathlib.Core.Path.{◌≡◌}
use native.Mathlib.Nat.{add-zero, add_assoc}
use native.Mathlib.Omega.{arith}
use Rattle.model.specs.Refusals.{Reason, Rule, rule, for_each}
use Rattle.model.proofs.Verdict.{AllHold, none, more}

pub all_append : {p q : List Rule} → AllHold p → AllHold q → AllHold (p ++ q)
all_append none b = b
all_append (more h a) b = more h (all_append a b)

pub append_all : (p : List Rule) {q : List Rule} → AllHold (p ++ q) → AllHold p × AllHold q
append_all [] a = (none, a)
append_all (r ∷ p) (more h a) = let s = append_all p a in (more h s.0, s.1)

pub one_holds : {why : Reason} {place : ℕ} {b : Bool} → b ≡ true → AllHold (rule why place b ∷ [])
one_holds h = more h none

pub holds_one : {why : Reason} {place : ℕ} {b : Bool} → AllHold (rule why place b ∷ []) → b ≡ true
holds_one (more h none) = h

pub each→all : (f : ℕ → List Rule) (n i : ℕ) → ((k : ℕ) → k < n → AllHold (f (i + k))) → AllHold (for_each f n i)
unfolding for_each
each→all f zero i h = none
each→all f (suc n) i h =
    all_append (rw add-zero at (h 0 (omega arith))) (each→all f n (i + 1) (λ k l. rw add_assoc (h (1 + k) (omega arith))))

pub all→each : (f : ℕ → List Rule) (n i : ℕ) → AllHold (for_each f n i) → (k : ℕ) → k < n → AllHold (f (i + k))
unfolding for_each
all→each f zero i a k l = absurd (omega arith)
all→each f (suc n) i a zero l = rw add-zero (append_all (f i) a).0
all→each f (suc n) i a (suc k) l =
    let e : i + suc k ≡ i + 1 + k = omega arith in
    rw e (all→each f n (i + 1) (append_all (f i) a).1 k (omega arith))
