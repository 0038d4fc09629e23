-- What is put field by field is a block: each field starts where the one before it ends.
use Prim.Native.Nat.{ℕ, ◌-◌, ◌≤◌}
use mathlib.Core.List.{List, ◌++◌, append_assoc}
use mathlib.Core.Path.{◌≡◌, sym, ◌∙◌}
use native.Mathlib.Nat.{zero-add}
use native.Mathlib.Omega.{arith}
use lib.ListN.{length, take, replicate, length-append, length-replicate}
use lib.Seq.{take_all, take_at}
use Rattle.model.specs.Records.{put, u16_bytes, u32_bytes, sum_a, sum_b, count_of}
use Rattle.model.specs.Writer.{block_body, with_sums, block}
use Rattle.blocks.proofs.OneBlock.{same_sums, length_body}
use Rattle.fields.proofs.Puts.{put_whole, put_then}

-- ---- the body, field by field

pub fields_put : (l : List ℕ) (b : ℕ) (records : List ℕ) → length records ≤ 480 → put (put (put (put (put (put l 0 records) (length records) (replicate (480 - length records) 0)) 480 (u16_bytes b)) 482 (u16_bytes (count_of records))) 484 (u32_bytes 1)) 488 (replicate 20 0) ≡ put l 0 (block_body b records)
unfolding block_body
fields_put l b records h =
    let p₁ = records ++ replicate (480 - length records) 0 in
    let p₂ = p₁ ++ u16_bytes b in
    let p₃ = p₂ ++ u16_bytes (count_of records) in
    let p₄ = p₃ ++ u32_bytes 1 in
    let n₁ : length p₁ ≡ 480 = simp (length-append, length-replicate) (omega arith) in
    let n₂ : length p₂ ≡ 482 = rw (length-append, n₁) in
    let n₃ : length p₃ ≡ 484 = rw (length-append, n₂) in
    let n₄ : length p₄ ≡ 488 = rw (length-append, n₃) in
    rw (put_then l 0 (length records) records (replicate (480 - length records) 0) (omega arith) (zero-add _), put_then l 0 480 p₁ (u16_bytes b) (omega arith) (omega arith), put_then l 0 482 p₂ (u16_bytes (count_of records)) (omega arith) (omega arith), put_then l 0 484 p₃ (u32_bytes 1) (omega arith) (omega arith), put_then l 0 488 p₄ (replicate 20 0) (omega arith) (omega arith))
    (simp append_assoc)

-- ---- the sums after it

body_first : (l : List ℕ) (body : List ℕ) → length body ≡ 508 → take 508 (put l 0 body) ≡ body
unfolding put
body_first l body h = take_at body _ 508 h

pub sums_put : (l : List ℕ) (b : ℕ) (records : List ℕ) → length l ≡ 512 → length records ≤ 480 → let m = put l 0 (block_body b records) in put m 508 (u16_bytes (sum_a m) ++ u16_bytes (sum_b m)) ≡ block b records
unfolding block with_sums
sums_put l b records size h =
    let body = block_body b records in
    let n = length_body b records h in
    let sums = same_sums (put l 0 body) body (body_first l body n ∙ sym (take_all 508 body (omega arith))) in
    let s = u16_bytes (sum_a body) ++ u16_bytes (sum_b body) in
    rw (sums.0, sums.1, put_then l 0 508 body s (omega arith) (omega arith))
    (put_whole l (body ++ s) (rw length-append (omega arith)))
