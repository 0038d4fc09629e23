-- near(n, d) is the whole number nearest n/d, a half going up, and the only one; and how far it is from n/d, by which every later bound goes.
use mathlib.Core.Path.{◌≡◌, sym, subst}
use mathlib.Core.List.{[], ◌∷◌}
use mathlib.Core.Logic.{⊎_elim}
use Prim.Native.Nat.{ℕ, ◌*◌, ◌≤◌, ◌<◌}
use native.Mathlib.Omega.{arith}
use lib.IntN.{ℤ, pos, nat_abs, ◌+ℤ◌, ◌-ℤ◌, ◌*ℤ◌}
use lib.Signed.{◌≤ℤ◌, ◌<ℤ◌}
use Rattle.integers.specs.Floor.{floor_div, IsFloor}
use Rattle.integers.proofs.Floor.{floor_is, floor_unique, floor_mono}
use Rattle.integers.proofs.Order.{order, sum, difference, multiple, parts, ≤ℤ_total, ≤ℤ_antisym, ≤ℤ_mul_left, 0≤-pos}
use Rattle.integers.proofs.Written.{writing, identity}
use Rattle.model.specs.Rounding.{near}

-- q is near(n, d): d·q is above n − d/2 and at most n + d/2.
pub record IsNear (n : ℤ) (d : ℕ) (q : ℤ) : Type 0 where
  pub low : (pos 2 *ℤ (pos d *ℤ q)) ≤ℤ (pos 2 *ℤ n +ℤ pos d)
  pub high : (pos 2 *ℤ n) <ℤ (pos 2 *ℤ (pos d *ℤ q) +ℤ pos d)

twice_multiple : (d : ℕ) (q : ℤ) → pos (2 * d) *ℤ q ≡ pos 2 *ℤ (pos d *ℤ q)
twice_multiple d q = identity {ρ = pos d ∷ q ∷ []} (search writing depth 20) (search writing depth 20) tt

next_multiple : (d : ℕ) (q : ℤ) → pos (2 * d) *ℤ (q +ℤ pos 1) ≡ pos 2 *ℤ (pos d *ℤ q) +ℤ pos d +ℤ pos d
next_multiple d q = identity {ρ = pos d ∷ q ∷ []} (search writing depth 20) (search writing depth 20) tt

module _ {d : ℕ} (h : 0 < d) where
  near_floor : {n q : ℤ} → IsNear n d q → IsFloor (pos 2 *ℤ n +ℤ pos d) (2 * d) q
  near_floor {n} {q} i =
      record {
        low = subst (λ x. x ≤ℤ (pos 2 *ℤ n +ℤ pos d)) (sym (twice_multiple d q)) i.low;
        high = omega (order, next_multiple d q, i.high, sum (pos 2 *ℤ n) (pos d), sum (pos 2 *ℤ (pos d *ℤ q) +ℤ pos d) (pos d));
      }

  pub near_is : (n : ℤ) → IsNear n d (near n d)
  unfolding near
  near_is n =
      let q = floor_div (pos 2 *ℤ n +ℤ pos d) (2 * d) in
      let f = floor_is (pos 2 *ℤ n +ℤ pos d) {d = 2 * d} (omega arith) in
      record {
        low = subst (λ x. x ≤ℤ (pos 2 *ℤ n +ℤ pos d)) (twice_multiple d q) f.low;
        high = omega (order, next_multiple d q, f.high, sum (pos 2 *ℤ n) (pos d), sum (pos 2 *ℤ (pos d *ℤ q) +ℤ pos d) (pos d));
      }

  pub near_unique : {n q : ℤ} → IsNear n d q → q ≡ near n d
  unfolding near
  near_unique i = floor_unique {d = 2 * d} (omega arith) (near_floor i)

  -- 2·|d·near(n, d) − n| ≤ d
  pub near_error : (n : ℤ) → 2 * nat_abs (pos d *ℤ near n d -ℤ n) ≤ d
  near_error n =
      let i = near_is n in
      let x = pos d *ℤ near n d in
      omega (order, i.low, i.high, difference x n, parts (x -ℤ n), multiple 2 x, multiple 2 n, sum (pos 2 *ℤ n) (pos d), sum (pos 2 *ℤ x) (pos d))

  pub near_mono : {m n : ℤ} → m ≤ℤ n → near m d ≤ℤ near n d
  unfolding near
  near_mono {m} {n} l =
      let k : (pos 2 *ℤ m +ℤ pos d) ≤ℤ (pos 2 *ℤ n +ℤ pos d) = omega (order, multiple 2 m, multiple 2 n, sum (pos 2 *ℤ m) (pos d), sum (pos 2 *ℤ n) (pos d)) in
      floor_mono {d = 2 * d} (omega arith) k

  pub near_multiple : (k : ℤ) → near (pos d *ℤ k) d ≡ k
  near_multiple k = sym (near_unique (record { low = omega (order, sum (pos 2 *ℤ (pos d *ℤ k)) (pos d)); high = omega (order, sum (pos 2 *ℤ (pos d *ℤ k)) (pos d)) }))

-- "the whole number nearest n/d, a half going up": none is nearer, and of two that are as near it is the greater.
pub record Nearest (n : ℤ) (d : ℕ) (q : ℤ) : Type 0 where
  pub nearest : (k : ℤ) → nat_abs (pos d *ℤ q -ℤ n) ≤ nat_abs (pos d *ℤ k -ℤ n)
  pub upward : (k : ℤ) → nat_abs (pos d *ℤ k -ℤ n) ≡ nat_abs (pos d *ℤ q -ℤ n) → k ≤ℤ q

-- what k lies apart from q, d·k lies apart from d·q by d at least
apart : (d : ℕ) {a b : ℤ} → a <ℤ b → (pos d *ℤ a +ℤ pos d) ≤ℤ (pos d *ℤ b)
apart d {a} {b} l =
    let k : (a +ℤ pos 1) ≤ℤ b = omega (order, sum a (pos 1)) in
    subst (λ x. x ≤ℤ (pos d *ℤ b)) (identity {ρ = pos d ∷ a ∷ []} (search writing depth 20) (search writing depth 20) tt) (≤ℤ_mul_left (pos d) (0≤-pos d) k)

module _ (d : ℕ) (h : 0 < d) (n k : ℤ) where
  -- a smaller number is no nearer
  near_below : k <ℤ near n d → nat_abs (pos d *ℤ near n d -ℤ n) ≤ nat_abs (pos d *ℤ k -ℤ n)
  near_below l =
      let x = pos d *ℤ near n d in
      let y = pos d *ℤ k in
      omega (order, (near_is h n).low, apart d l, sum y (pos d), difference x n, difference y n, parts (x -ℤ n), parts (y -ℤ n), near_error h n)

  -- a greater one is farther
  near_beyond : near n d <ℤ k → nat_abs (pos d *ℤ near n d -ℤ n) < nat_abs (pos d *ℤ k -ℤ n)
  near_beyond l =
      let x = pos d *ℤ near n d in
      let y = pos d *ℤ k in
      let i = near_is h n in
      omega (order, i.low, i.high, apart d l, multiple 2 x, multiple 2 n, sum (pos 2 *ℤ x) (pos d), sum (pos 2 *ℤ n) (pos d), sum x (pos d), difference x n, difference y n, parts (x -ℤ n), parts (y -ℤ n))

  near_not_below : k ≤ℤ near n d → nat_abs (pos d *ℤ near n d -ℤ n) ≤ nat_abs (pos d *ℤ k -ℤ n)
  near_not_below l =
      ⊎_elim
      (λ g. let e : near n d ≡ k = ≤ℤ_antisym g l in subst (λ x. nat_abs (pos d *ℤ near n d -ℤ n) ≤ nat_abs (pos d *ℤ x -ℤ n)) e (omega arith))
      near_below
      (≤ℤ_total (near n d) k)

-- near(n, d) is the nearest whole number, a half going up, and `nearest_only` below says that no other is.
pub near_nearest : {d : ℕ} → 0 < d → (n : ℤ) → Nearest n d (near n d)
near_nearest {d} h n =
    record {
      nearest = λ k. ⊎_elim (near_not_below d h n k) (λ l. omega (arith, near_beyond d h n k l)) (≤ℤ_total k (near n d));
      upward = λ k e. ⊎_elim (λ l. l) (λ l. absurd (omega (arith, near_beyond d h n k l))) (≤ℤ_total k (near n d));
    }

pub nearest_only : {d : ℕ} → 0 < d → (n q : ℤ) → Nearest n d q → q ≡ near n d
nearest_only {d} h n q i =
    let j = near_nearest h n in
    let e : nat_abs (pos d *ℤ q -ℤ n) ≡ nat_abs (pos d *ℤ near n d -ℤ n) = omega (arith, i.nearest (near n d), j.nearest q) in
    ≤ℤ_antisym (j.upward q e) (i.upward (near n d) (sym e))
