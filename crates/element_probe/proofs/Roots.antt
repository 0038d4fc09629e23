-- Roots added so far and those that are left make the whole sum, and each is below 2^32.
use Prim.Native.Nat.{ℕ, zero, suc, ◌+◌, ◌-◌, ◌*◌, ◌^◌, ◌<◌, ◌≤◌}
use mathlib.Core.Path.{◌≡◌, ap}
use native.Mathlib.Omega.{arith}
use Rattle.integers.specs.Root.{root}
use Rattle.element_probe.specs.Sums.{roots_from}

-- after i of n roots from `first` on
pub record RootsAdded (first n sum i : ℕ) : Type 0 where
  pub within : i ≤ n
  pub small : sum ≤ i * 4294967295
  pub whole : sum + roots_from (n - i) (first + i) ≡ roots_from n first

pub no_roots_yet : (first n : ℕ) → RootsAdded first n 0 0
no_roots_yet first n =
    let a : n - 0 ≡ n = omega arith in
    let b : first + 0 ≡ first = omega arith in
    record { within = omega arith; small = omega arith; whole = rw (a, b) (omega arith) }

next : (k m : ℕ) → 0 < k → roots_from k m ≡ root m + roots_from (k - 1) (m + 1)
unfolding roots_from
next zero m h = absurd (omega arith)
next (suc k) m h =
    let e : k ≡ suc k - 1 = omega arith in
    ap (λ j. root m + roots_from j (m + 1)) e

pub one_root_more : {first n sum i : ℕ} → RootsAdded first n sum i → i < n → root (first + i) < 2 ^ 32 → RootsAdded first n (sum + root (first + i)) (i + 1)
one_root_more {first} {n} {sum} {i} a h r =
    let e = next (n - i) (first + i) (omega arith) in
    let k : n - i - 1 ≡ n - (i + 1) = omega arith in
    let m : first + i + 1 ≡ first + (i + 1) = omega arith in
    record { within = omega arith; small = omega (arith, a.small); whole = omega (arith, a.whole, rw (k, m) at e) }

pub all_roots_added : {first n sum i : ℕ} → RootsAdded first n sum i → n ≤ i → sum ≡ roots_from n first
unfolding roots_from
all_roots_added {first} {n} {sum} {i} a h =
    let z : n - i ≡ 0 = omega (arith, a.within) in
    let e = rw z at a.whole in
    omega arith
