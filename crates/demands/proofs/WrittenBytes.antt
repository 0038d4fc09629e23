-- What the writer makes of bytes is bytes: each is one of a field, a zero or a record's byte.
use Prim.Native.Nat.{ℕ, zero, suc, ◌+◌, ◌-◌}
use mathlib.Core.List.{List}
use lib.ListN.{length, take, drop}
use Rattle.model.specs.Records.{sum_a, sum_b, count_of}
use Rattle.model.specs.Writer.{block_body, with_sums, block, blocks_from, blocks_needed, file_of}
use Rattle.fields.proofs.Bytes.{AllBytes, part_bytes, drop_bytes, none_bytes, append_bytes, zeros_bytes, u16_bytes_lem, u32_bytes_lem}

body_bytes : (b : ℕ) (records : List ℕ) → AllBytes records → AllBytes (block_body b records)
unfolding block_body
body_bytes b records h =
    append_bytes records h
    (append_bytes _ (zeros_bytes (480 - length records))
    (append_bytes _ (u16_bytes_lem b) (append_bytes _ (u16_bytes_lem (count_of records)) (append_bytes _ (u32_bytes_lem 1) (zeros_bytes 20)))))

block_bytes : (b : ℕ) (records : List ℕ) → AllBytes records → AllBytes (block b records)
unfolding block with_sums
block_bytes b records h =
    let body = block_body b records in
    append_bytes body (body_bytes b records h) (append_bytes _ (u16_bytes_lem (sum_a body)) (u16_bytes_lem (sum_b body)))

blocks_bytes : (n b : ℕ) (records : List ℕ) → AllBytes records → AllBytes (blocks_from n b records)
unfolding blocks_from
blocks_bytes zero b records h = none_bytes
blocks_bytes (suc n) b records h =
    append_bytes _ (block_bytes b (take 480 records) (part_bytes records 0 480 h)) (blocks_bytes n (b + 1) (drop 480 records) (drop_bytes 480 records h))

pub file_bytes : (records : List ℕ) → AllBytes records → AllBytes (file_of records)
unfolding file_of
file_bytes records h = blocks_bytes (blocks_needed records) 0 records h
