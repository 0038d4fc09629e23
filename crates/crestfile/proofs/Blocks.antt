-- A crest is a row of sound blocks and the records in use in them. What a row holds is read off by induction along it: its length, its record bytes, each of its blocks, and the row that the writer makes of its records.
use Prim.Native.Nat.{ℕ, zero, suc, ◌+◌, ◌-◌, ◌*◌, ◌≤◌, ◌<◌}
use mathlib.Core.Bool.{true}
use mathlib.Core.List.{List, ◌++◌, append-nil}
use mathlib.Core.Path.{◌≡◌, refl, sym, ap, ◌∙◌}
use native.Mathlib.Nat.{add-zero}
use native.Mathlib.Omega.{arith}
use lib.ListN.{length, take, drop, length-append, length-take, length-drop, take-append-drop}
use lib.Seq.{length-take-le, take_at, drop_at, take_all, take-append-le}
use Rattle.model.specs.Records.{used_in, block_of, used_bytes}
use Rattle.model.specs.Writer.{block, blocks_from}
use Rattle.model.specs.Acceptance.{use_fits}
use Rattle.fields.proofs.Bytes.{AllBytes, front_bytes, back_bytes}
use Rattle.blocks.proofs.OneBlock.{Fields, block_fields, block_length}
use Rattle.blocks.proofs.BlockRules.{Sound, sound_uses, sound_block, fields→sound, last_uses, earlier_uses, uses_few}
use Rattle.crestfile.proofs.Seams.{u16_before, block_of_first, block_of_later}

-- "Every block but the last uses 15 records, the last 1 to 15": of n blocks the m from number b on are `file`, and their records in use are `records`.
pub data Blocks (n : ℕ) : ℕ → ℕ → List ℕ → List ℕ → Type 0 where
  last : {b : ℕ} {l : List ℕ} → b + 1 ≡ n → Sound n b l → Blocks n 1 b l (take (32 * used_in l) l)
  next : {m b : ℕ} {l file records : List ℕ} → b + 1 < n → Sound n b l → Blocks n m (b + 1) file records → Blocks n (suc m) b (l ++ file) (take 480 l ++ records)

-- ---- one block of a row

pub last_in_use : {n b : ℕ} {l : List ℕ} → b + 1 ≡ n → Sound n b l → (1 ≤ used_in l) × (used_in l ≤ 15)
last_in_use {n} {b} {l} e s = (last_uses n b (used_in l) e).0 (sound_uses s)

earlier_in_use : {n b : ℕ} {l : List ℕ} → b + 1 < n → Sound n b l → used_in l ≡ 15
earlier_in_use {n} {b} {l} h s = (earlier_uses n b (used_in l) h).0 (sound_uses s)

-- ---- what a row holds

pub file_length : {n m b : ℕ} {file records : List ℕ} → Blocks n m b file records → length file ≡ 512 * m
file_length (last e s) = s.size
file_length (next {l = l} {file = file} h s r) = rw length-append (omega (arith, s.size, file_length r))

pub used_bytes_lem : {n m b : ℕ} {file records : List ℕ} → Blocks n m b file records → used_bytes m file ≡ records
unfolding used_bytes
used_bytes_lem (last e s) = append-nil _
used_bytes_lem (next {l = l} {file = file} h s r) =
    let size = s.size in
    let u : used_in (l ++ file) ≡ 15 = u16_before l file 482 (omega arith) ∙ earlier_in_use h s in
    rw (u, take-append-le 480 l file (omega arith), drop_at l file 512 size, used_bytes_lem r)

-- c records fill m blocks, the last of them perhaps in part
pub record Fill (m c : ℕ) : Type 0 where
  pub most : c ≤ 15 * m
  pub least : 15 * m < c + 15

pub records_count : {n m b : ℕ} {file records : List ℕ} → Blocks n m b file records → (c : ℕ) × (length records ≡ 32 * c) × Fill m c
records_count (last {l = l} e s) =
    let u = last_in_use e s in
    (used_in l, length-take-le (32 * used_in l) l (omega (arith, s.size)), record { most = u.1; least = omega arith })
records_count (next {l = l} {file = file} h s r) =
    let (c, e, f) = records_count r in
    let t = length-take-le 480 l (omega (arith, s.size)) in
    (15 + c, rw (length-append, t) (omega arith), record { most = omega arith; least = omega arith })

pub each_sound : {n m b : ℕ} {file records : List ℕ} → Blocks n m b file records → (k : ℕ) → k < m → Sound n (b + k) (block_of file k)
each_sound (last {l = l} e s) zero h = rw (add-zero, take_all 512 l (omega (arith, s.size))) s
each_sound (last {l = l} e s) (suc k) h = absurd (omega arith)
each_sound (next {l = l} {file = file} h s r) zero i = rw (add-zero, block_of_first l file s.size) s
each_sound (next {b = b} {l = l} {file = file} h s r) (suc k) i =
    let e : b + suc k ≡ b + 1 + k = omega arith in
    rw (e, block_of_later l file k s.size) (each_sound r k (omega arith))

-- the writer makes the same row of the same records
pub rewritten : {n m b : ℕ} {file records : List ℕ} → Blocks n m b file records → AllBytes file → blocks_from m b records ≡ file
unfolding blocks_from
rewritten (last {b = b} {l = l} e s) bytes =
    let u = last_in_use e s in
    let t = take_all 480 (take (32 * used_in l) l) (rw length-take (omega arith)) in
    append-nil _ ∙ ap (λ x. block b x) t ∙ sym (sound_block s bytes)
rewritten (next {b = b} {l = l} {file = file} {records = records} h s r) bytes =
    let t = length-take-le 480 l (omega (arith, s.size)) in
    let own : block b (take 480 l) ≡ l = rw (earlier_in_use h s) at (sym (sound_block s (front_bytes l file bytes))) in
    rw (take_at (take 480 l) records 480 t, drop_at (take 480 l) records 480 t, own, rewritten r (back_bytes l file bytes))

-- ---- the row of a file whose blocks are sound

pub sound_row : (n m b : ℕ) (file : List ℕ) → b + m ≡ n → 1 ≤ m → length file ≡ 512 * m → ((k : ℕ) → k < m → Sound n (b + k) (block_of file k)) → (records : List ℕ) × Blocks n m b file records
sound_row n zero b file e some size each = absurd (omega arith)
sound_row n (suc zero) b file e some size each =
    (_, last e (rw (add-zero, take_all 512 file (omega arith)) at (each 0 (omega arith))))
sound_row n (suc (suc m)) b file e some size each =
    start (sound_row n (suc m) (b + 1) (drop 512 file) (omega arith) (omega arith) (rw length-drop (omega arith)) (λ k h. later k (omega arith)))
  where
    whole : take 512 file ++ drop 512 file ≡ file
    whole = take-append-drop 512 file

    later : (k : ℕ) → suc k < suc (suc m) → Sound n (b + 1 + k) (block_of (drop 512 file) k)
    later k h =
        let i : b + suc k ≡ b + 1 + k = omega arith in
        let j = block_of_later (take 512 file) (drop 512 file) k (length-take-le 512 file (omega arith)) in
        rw (i, ← whole, j) at (each (suc k) h)

    start : (records : List ℕ) × Blocks n (suc m) (b + 1) (drop 512 file) records → (records : List ℕ) × Blocks n (suc (suc m)) b file records
    start (records, row) =
        let before : b + 1 < n = omega arith in
        let first : Sound n b (take 512 file) = rw add-zero at (each 0 (omega arith)) in
        (_, rw whole at (next before first row))

-- ---- the row of given records

written_block : (n b u : ℕ) (records : List ℕ) → length records ≡ 32 * u → b < 65536 → use_fits n b u ≡ true → Fields (block b records) b u records × Sound n b (block b records)
written_block n b u records long small uses =
    let few = uses_few n b u uses in
    let f = block_fields b u records long few small in
    (f, fields→sound (block_length b u records long few) uses f)

pub records_row : (n m b c : ℕ) (records : List ℕ) → n ≤ 65536 → b + m ≡ n → 1 ≤ m → length records ≡ 32 * c → Fill m c → Blocks n m b (blocks_from m b records) records
unfolding blocks_from
records_row n zero b c records small e some long f = absurd (omega arith)
records_row n (suc zero) b c records small e some long f =
    let (w, s) = written_block n b c records long (omega arith) ((last_uses n b c e).1 (omega arith, omega arith)) in
    rw (append-nil, take_all 480 records (omega arith)) (rw (w.used, w.first) at (last e s))
records_row n (suc (suc m)) b c records small e some long f =
    let before : b + 1 < n = omega arith in
    let (w, s) = written_block n b 15 (take 480 records) (length-take-le 480 records (omega arith)) (omega arith) ((earlier_uses n b 15 before).1 refl) in
    let row = records_row n (suc m) (b + 1) (c - 15) (drop 480 records) small (omega arith) (omega arith) (rw length-drop (omega arith)) (record { most = omega arith; least = omega arith }) in
    rw (w.first, take-append-drop) at (next before s row)
