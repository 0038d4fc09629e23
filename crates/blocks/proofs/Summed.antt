-- The sums of a block, as a loop that reads it byte by byte makes them: what is added up so far and the sums of the rest are the whole sums.
use Prim.Native.Nat.{ℕ, ◌+◌, ◌-◌, ◌*◌, ◌≤◌, ◌<◌}
use mathlib.Core.List.{List, []}
use mathlib.Core.Path.{◌≡◌, ap}
use native.Mathlib.Nat.{mul-le-mul}
use native.Mathlib.Omega.{arith}
use lib.ListN.{length, take, drop, drop_of_length-le, length-take}
use lib.Seq.{get_or-take, length-take-le}
use Rattle.model.specs.Records.{byte_at, sum_of, weighted_from}
use Rattle.fields.proofs.Rest.{first_rest}

sum_rest : (l : List ℕ) (i : ℕ) → i < length l → sum_of (drop i l) ≡ byte_at l i + sum_of (drop (i + 1) l)
unfolding sum_of
sum_rest l i h = ap sum_of (first_rest l i h)

weighted_rest : (l : List ℕ) (i : ℕ) → i < length l → weighted_from i (drop i l) ≡ (508 - i) * byte_at l i + weighted_from (i + 1) (drop (i + 1) l)
unfolding weighted_from
weighted_rest l i h = ap (weighted_from i) (first_rest l i h)

-- a and b are the sums of the first i of the bytes that a block's sums are over
pub record Summed (block : List ℕ) (a b i : ℕ) : Type 0 where
  pub within : i ≤ 508
  pub small_a : a ≤ 255 * i
  pub small_b : b ≤ 129540 * i
  pub rest_a : sum_of (take 508 block) ≡ a + sum_of (drop i (take 508 block))
  pub rest_b : weighted_from 0 (take 508 block) ≡ b + weighted_from i (drop i (take 508 block))

pub weight_small : (i x : ℕ) → x < 256 → (508 - i) * x ≤ 129540
weight_small i x h =
    let p : 508 - i ≤ 508 = omega arith in
    let q : x ≤ 255 = omega arith in
    mul-le-mul p q

pub summed_one_more : {block : List ℕ} {a b i x : ℕ} → 508 ≤ length block → i < 508 → x ≡ byte_at block i → x < 256 → Summed block a b i → Summed block (a + x) (b + (508 - i) * x) (i + 1)
summed_one_more {block} {a} {b} {i} {x} long h e small s =
    let n = length-take-le 508 block long in
    let y = get_or-take 508 block i 0 h in
    let p = sum_rest (take 508 block) i (omega arith) in
    let q : weighted_from i (drop i (take 508 block)) ≡ (508 - i) * x + weighted_from (i + 1) (drop (i + 1) (take 508 block)) = rw (e, ← y) (weighted_rest (take 508 block) i (omega arith)) in
    record {
      within = omega arith;
      small_a = omega arith;
      small_b = omega (arith, weight_small i x small);
      rest_a = omega arith;
      rest_b = omega arith;
    }

pub summed_all : {block : List ℕ} {a b i : ℕ} → 508 ≤ length block → 508 ≤ i → Summed block a b i → (sum_of (take 508 block) ≡ a) × (weighted_from 0 (take 508 block) ≡ b)
unfolding sum_of weighted_from
summed_all {block} {a} {b} {i} long h s =
    let e : drop i (take 508 block) ≡ [] = drop_of_length-le (take 508 block) {i = i} (rw length-take (omega arith)) in
    (omega (arith, rw e at s.rest_a), omega (arith, rw e at s.rest_b))
