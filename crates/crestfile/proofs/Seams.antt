-- Lists that are put together: a part that lies on one side of the seam, and a file's blocks.
use Prim.Native.Nat.{ℕ, suc, ◌+◌, ◌*◌, ◌≤◌}
use mathlib.Core.List.{List, ◌++◌}
use mathlib.Core.Path.{◌≡◌, ap, ◌∙◌}
use native.Mathlib.Nat.{add_assoc}
use native.Mathlib.Omega.{arith}
use lib.ListN.{length, take, drop, length-drop, get_or-append}
use lib.Seq.{take_at, drop-append-le, take-append-le, drop-append-add, get_or-append-add}
use Rattle.model.specs.Records.{u16_at, part, block_of}

pub part_before : (p q : List ℕ) (at n : ℕ) → at + n ≤ length p → part (p ++ q) at n ≡ part p at n
part_before p q at n h =
    ap (λ x. take n x) (drop-append-le at p q (omega arith)) ∙ take-append-le n (drop at p) q (rw length-drop (omega arith))

pub part_after : (p q : List ℕ) (k at n : ℕ) → length p ≡ k → part (p ++ q) (k + at) n ≡ part q at n
part_after p q k at n h = ap (λ x. take n x) (rw (← h) (drop-append-add p q at))

pub u16_before : (p q : List ℕ) (at : ℕ) → at + 2 ≤ length p → u16_at (p ++ q) at ≡ u16_at p at
u16_before p q at h = rw (get_or-append p q 0 at (omega arith), get_or-append p q 0 (at + 1) (omega arith))

pub u16_after : (p q : List ℕ) (k at : ℕ) → length p ≡ k → u16_at (p ++ q) (k + at) ≡ u16_at q at
u16_after p q k at h = rw (← h, add_assoc, get_or-append-add p q at 0, get_or-append-add p q (at + 1) 0)

-- ---- blocks

pub block_of_first : (p q : List ℕ) → length p ≡ 512 → block_of (p ++ q) 0 ≡ p
block_of_first p q h = take_at p q 512 h

pub block_of_later : (p q : List ℕ) (b : ℕ) → length p ≡ 512 → block_of (p ++ q) (suc b) ≡ block_of q b
block_of_later p q b h =
    let e : 512 * suc b ≡ 512 + 512 * b = omega arith in
    rw e (part_after p q 512 (512 * b) 512 h)
