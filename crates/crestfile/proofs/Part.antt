-- A record of a file whose blocks are accepted is 32 bytes of the file itself, at a place known from its number: by induction along the blocks, 15 records to a block.
use Prim.Native.Nat.{ℕ, ◌+◌, ◌-◌, ◌*◌, ◌≤◌, ◌<◌}
use mathlib.Core.List.{List, ◌++◌}
use mathlib.Core.Path.{◌≡◌, sym, ap, ◌∙◌}
use native.Mathlib.Decide.{dec_lt}
use native.Mathlib.Omega.{arith}
use lib.ListN.{length, take, drop, length-append, length-take, take-append-drop}
use lib.Seq.{length-take-le}
use Rattle.model.specs.declared.Outcome.TheVariants.{Done}
use Rattle.model.specs.Records.{part, record_bytes, record_start, count_of, record_of, used_in}
use Rattle.model.specs.Crest.{check_of, file_crest}
use Rattle.model.specs.Refusals.{verdict}
use Rattle.model.specs.Acceptance.{blocks_rules}
use Rattle.fields.proofs.PartsOf.{length_part}
use Rattle.crestfile.proofs.Seams.{part_before, part_after}
use Rattle.crestfile.proofs.Blocks.{Blocks, last, next, last_in_use, file_length, records_count}
use Rattle.crestfile.proofs.SoundFile.{blocks→sound_file, accepted→blocks}

-- ---- where a record starts

start_first : (r : ℕ) → r < 15 → record_start r ≡ 32 * r
start_first r h = omega arith

start_later : (r : ℕ) → record_start (15 + r) ≡ 512 + record_start r
start_later r = omega arith

-- a part of l's first k elements
part_take : (l : List ℕ) (k at n : ℕ) → at + n ≤ k → k ≤ length l → part (take k l) at n ≡ part l at n
part_take l k at n h i =
    sym (part_before (take k l) (drop k l) at n (rw length-take (omega arith))) ∙ ap (λ x. part x at n) (take-append-drop k l)

-- ---- along the blocks

row_part : {n m b : ℕ} {file records : List ℕ} → Blocks n m b file records → (r : ℕ) → 32 * r + 32 ≤ length records → part file (record_start r) 32 ≡ record_of records r
row_part (last {l = l} e s) r h =
    let size = s.size in
    let u = last_in_use e s in
    let k = length-take-le (32 * used_in l) l (omega arith) in
    rw (start_first r (omega arith)) (sym (part_take l (32 * used_in l) (32 * r) 32 (omega arith) (omega arith)))
row_part (next {l = l} {file = file} {records = records} i s rest) r h = go (λ q k. row_part rest q k) (dec_lt r 15)
  where
    size : length l ≡ 512
    size = s.size

    front : length (take 480 l) ≡ 480
    front = length-take-le 480 l (omega arith)

    total : length (take 480 l ++ records) ≡ 480 + length records
    total = rw (length-append, front)

    go : ((r : ℕ) → 32 * r + 32 ≤ length records → part file (record_start r) 32 ≡ record_of records r) → Dec (r < 15) → part (l ++ file) (record_start r) 32 ≡ record_of (take 480 l ++ records) r
    go ih (yes p) =
        rw (start_first r p, part_before l file (32 * r) 32 (omega (arith, size)), part_before (take 480 l) records (32 * r) 32 (omega (arith, front)))
        (sym (part_take l 480 (32 * r) 32 (omega arith) (omega (arith, size))))
    go ih (no p) =
        let q = r - 15 in
        let e : r ≡ 15 + q = omega arith in
        let f : 32 * (15 + q) ≡ 480 + 32 * q = omega arith in
        rw (e, start_later q, f)
        (part_after l file 512 (record_start q) 32 size
        ∙ ih q (omega (arith, total))
        ∙ sym (part_after (take 480 l) records 480 (32 * q) 32 front))

row_within : {n m b : ℕ} {file records : List ℕ} → Blocks n m b file records → (r : ℕ) → 32 * r + 32 ≤ length records → record_start r + 32 ≤ length file
row_within row r h =
    let (c, long, f) = records_count row in
    omega (arith, file_length row)

-- ---- of a file whose blocks are accepted, with or without its records

pub record_within : (file : List ℕ) (r : ℕ) → verdict (blocks_rules file) ≡ Done → r < count_of (record_bytes file) → (part file (record_start r) 32 ≡ record_of (record_bytes file) r) × (record_start r + 32 ≤ length file) × (length (part file (record_start r) 32) ≡ 32)
record_within file r e h =
    let c = blocks→sound_file file e in
    let i : 32 * r + 32 ≤ length (record_bytes file) = omega arith in
    let k = row_within c.row r i in
    (row_part c.row r i, k, length_part file (record_start r) 32 k)

-- "The reader hands back a record as that part of the lent bytes": the part of the file is the record, and lies in the file.
pub record_part : (file : List ℕ) (r : ℕ) → check_of (file_crest file) ≡ Done → r < count_of (record_bytes file) → (part file (record_start r) 32 ≡ record_of (record_bytes file) r) × (record_start r + 32 ≤ length file) × (length (part file (record_start r) 32) ≡ 32)
record_part file r e h = record_within file r (accepted→blocks file e) h
