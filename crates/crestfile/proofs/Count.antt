-- Every block but the last uses 15 records, so the number of records is read off the last block, by induction along the blocks.
use Prim.Native.Nat.{ℕ, suc, ◌+◌, ◌-◌, ◌*◌, ◌≤◌}
use mathlib.Core.List.{List}
use mathlib.Core.Path.{◌≡◌}
use native.Mathlib.Omega.{arith}
use lib.ListN.{length, length-append}
use lib.Seq.{length-take-le}
use Rattle.model.specs.declared.Outcome.TheVariants.{Done}
use Rattle.model.specs.Records.{u16_at, used_in, block_count, record_bytes, count_of}
use Rattle.model.specs.Refusals.{verdict}
use Rattle.model.specs.Acceptance.{blocks_rules}
use Rattle.crestfile.proofs.Seams.{u16_after}
use Rattle.crestfile.proofs.Blocks.{Blocks, last, next, last_in_use, file_length, records_count}
use Rattle.crestfile.proofs.SoundFile.{sound_file_blocks, blocks→sound_file}

-- the records of m blocks
abbrev counted : ℕ → List ℕ → ℕ
counted m file = 15 * (m - 1) + u16_at file (512 * (m - 1) + 482)

some_blocks : {n m b : ℕ} {file records : List ℕ} → Blocks n m b file records → 1 ≤ m
some_blocks (last e s) = omega arith
some_blocks (next h s r) = omega arith

row_counted : {n m b : ℕ} {file records : List ℕ} → Blocks n m b file records → length records ≡ 32 * counted m file
row_counted (last {l = l} e s) =
    let u = last_in_use e s in
    omega (arith, length-take-le (32 * used_in l) l (omega (arith, s.size)))
row_counted (next {m = m} {l = l} {file = file} {records = records} h s r) =
    let some = some_blocks r in
    let e : 512 * (suc m - 1) + 482 ≡ 512 + (512 * (m - 1) + 482) = omega arith in
    let front = length-take-le 480 l (omega (arith, s.size)) in
    rw (length-append, e, u16_after l file 512 (512 * (m - 1) + 482) s.size) (omega (arith, row_counted r))

-- what the blocks' rules say of a file's length and number of records
pub record Counted (file : List ℕ) : Type 0 where
  pub whole : length file ≡ 512 * block_count file
  pub some : 1 ≤ block_count file
  pub at_most : block_count file ≤ 4
  pub count : count_of (record_bytes file) ≡ 15 * (block_count file - 1) + u16_at file (512 * (block_count file - 1) + 482)
  pub few : count_of (record_bytes file) ≤ 60

pub blocks→counted : (file : List ℕ) → verdict (blocks_rules file) ≡ Done → Counted file
blocks→counted file e =
    let c = blocks→sound_file file e in
    let n = sound_file_blocks c in
    let long = file_length c.row in
    let rows = row_counted c.row in
    let (k, size, fill) = records_count c.row in
    let some = c.some in
    let most = c.at_most in
    let here : length (record_bytes file) ≡ 32 * counted (block_count file) file = rw n rows in
    record { whole = omega arith; some = omega arith; at_most = omega arith; count = omega arith; few = omega arith }
