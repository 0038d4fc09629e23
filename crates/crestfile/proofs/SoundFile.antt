-- A file is accepted exactly when it is a row of 1 to 4 sound blocks whose records in use pass the rules of records: the rules on its length and its blocks say no more and no less.
use Prim.Native.Nat.{ℕ, zero, suc, ◌*◌, ◌/◌, ◌%◌, ◌≤◌, ◌<◌}
use mathlib.Core.Bool.{true}
use mathlib.Core.List.{List}
use mathlib.Core.Logic.{◌↔◌}
use mathlib.Core.Path.{◌≡◌, refl, ap, ◌∙◌}
use native.Mathlib.Nat.{zero-add}
use native.Mathlib.Omega.{arith}
use lib.Dec.{eqb}
use lib.ListN.{length}
use Rattle.model.specs.declared.Outcome.TheVariants.{Done}
use Rattle.model.specs.Records.{block_count, block_of, used_bytes, record_bytes}
use Rattle.model.specs.Crest.{check_of, file_crest}
use Rattle.model.specs.Refusals.{for_each, verdict}
use Rattle.model.specs.Acceptance.{length_fits, sums_agree, fields_fit, sum_rules, field_rules, records_rules, blocks_rules, crest_rules}
use Rattle.model.specs.Writer.{blocks_needed, count_fits}
use Rattle.model.proofs.Verdict.{AllHold, more, done→all, all→done}
use Rattle.integers.proofs.Tests.{eq_test, le_test, both_tests, either_test}
use Rattle.fields.proofs.PartsOf.{length_part}
use Rattle.model.proofs.ForEach.{all_append, append_all, one_holds, holds_one, each→all, all→each}
use Rattle.blocks.proofs.BlockRules.{Sound}
use Rattle.crestfile.proofs.Blocks.{Blocks, file_length, used_bytes_lem, each_sound, records_count, sound_row}

-- `file` is 1 to 4 sound blocks, and `records` are the records in use in them.
pub record SoundFile (file records : List ℕ) : Type 0 where
  pub blocks : ℕ
  pub some : 1 ≤ blocks
  pub at_most : blocks ≤ 4
  pub row : Blocks blocks blocks 0 file records

-- ---- the length

pub record WholeBlocks (n : ℕ) : Type 0 where
  pub whole : n ≡ 512 * (n / 512)
  pub some : 1 ≤ n / 512
  pub at_most : n / 512 ≤ 4

pub fits→blocks : (n : ℕ) → length_fits n ≡ true → WholeBlocks n
unfolding length_fits
fits→blocks n =
    either_test _ _
    (either_test _ _
    (either_test _ _ (is 1 (omega arith) (omega arith)) (is 2 (omega arith) (omega arith)))
    (is 3 (omega arith) (omega arith)))
    (is 4 (omega arith) (omega arith))
  where
    is : (m : ℕ) → 1 ≤ m → m ≤ 4 → eqb n (512 * m) ≡ true → WholeBlocks n
    is m s t e =
        let h = (eq_test n (512 * m)).0 e in
        record { whole = omega arith; some = omega arith; at_most = omega arith }

blocks→fits : (m : ℕ) → 1 ≤ m → m ≤ 4 → length_fits (512 * m) ≡ true
unfolding length_fits
blocks→fits zero s t = absurd (omega arith)
blocks→fits (suc zero) s t = refl
blocks→fits (suc (suc zero)) s t = refl
blocks→fits (suc (suc (suc zero))) s t = refl
blocks→fits (suc (suc (suc (suc zero)))) s t = refl
blocks→fits (suc (suc (suc (suc (suc m))))) s t = absurd (omega arith)

-- ---- the rules of a file's blocks, one by one

record Passed (file : List ℕ) : Type 0 where
  pub size : length_fits (length file) ≡ true
  pub sums : (b : ℕ) → b < block_count file → sums_agree (block_of file b) ≡ true
  pub fields : (b : ℕ) → b < block_count file → fields_fit (block_count file) b (block_of file b) ≡ true

blocks→passed : (file : List ℕ) → AllHold (blocks_rules file) → Passed file
unfolding blocks_rules sum_rules field_rules
blocks→passed file (more h a) =
    let s = append_all (for_each (sum_rules file) (block_count file) 0) a in
    record {
      size = h;
      sums = λ k l. rw zero-add at (holds_one (all→each (sum_rules file) (block_count file) 0 s.0 k l));
      fields = λ k l. rw zero-add at (holds_one (all→each (field_rules file) (block_count file) 0 s.1 k l));
    }

passed→blocks : (file : List ℕ) → Passed file → AllHold (blocks_rules file)
unfolding blocks_rules sum_rules field_rules
passed→blocks file p =
    more p.size
    (all_append
    (each→all (sum_rules file) (block_count file) 0 (λ b l. rw zero-add (one_holds (p.sums b l))))
    (each→all (field_rules file) (block_count file) 0 (λ b l. rw zero-add (one_holds (p.fields b l)))))

-- a file is accepted exactly when its blocks and its records are
accepted→both : (file : List ℕ) → check_of (file_crest file) ≡ Done → AllHold (blocks_rules file) × AllHold (records_rules (record_bytes file))
unfolding crest_rules
accepted→both file e = append_all (blocks_rules file) (done→all (crest_rules file) e)

both→accepted : (file : List ℕ) → AllHold (blocks_rules file) → AllHold (records_rules (record_bytes file)) → check_of (file_crest file) ≡ Done
unfolding crest_rules
both→accepted file a b = all→done (all_append a b)

pub accepted→blocks : (file : List ℕ) → check_of (file_crest file) ≡ Done → verdict (blocks_rules file) ≡ Done
accepted→blocks file e = all→done (accepted→both file e).0

-- ---- rows and rules

pub sound_file_blocks : {file records : List ℕ} (c : SoundFile file records) → block_count file ≡ c.blocks
sound_file_blocks c = omega (arith, file_length c.row)

pub sound_file_records : {file records : List ℕ} → SoundFile file records → record_bytes file ≡ records
unfolding record_bytes
sound_file_records {file} c = ap (λ n. used_bytes n file) (sound_file_blocks c) ∙ used_bytes_lem c.row

pub sound_file→accepted : {file records : List ℕ} → SoundFile file records → AllHold (records_rules records) → check_of (file_crest file) ≡ Done
sound_file→accepted {file} c a =
    both→accepted file
    (passed→blocks file (record {
      size = rw (file_length c.row) (blocks→fits c.blocks c.some c.at_most);
      sums = λ b l. (sound b (omega (arith, sound_file_blocks c))).sums;
      fields = λ b l. rw (sound_file_blocks c) (sound b (omega (arith, sound_file_blocks c))).fields;
    }))
    (rw (sound_file_records c) a)
  where
    sound : (b : ℕ) → b < c.blocks → Sound c.blocks b (block_of file b)
    sound b l = rw zero-add at (each_sound c.row b l)

-- the blocks' rules alone make a file a row
pub blocks→sound_file : (file : List ℕ) → verdict (blocks_rules file) ≡ Done → SoundFile file (record_bytes file)
blocks→sound_file file e =
    crest (sound_row (block_count file) (block_count file) 0 file (zero-add _) sized.some sized.whole (λ b l. rw zero-add (sound b l)))
  where
    p : Passed file
    p = blocks→passed file (done→all (blocks_rules file) e)

    sized : WholeBlocks (length file)
    sized = fits→blocks (length file) p.size

    sound : (b : ℕ) → b < block_count file → Sound (block_count file) b (block_of file b)
    sound b l =
        record {
          size = length_part file (512 * b) 512 (omega (arith, sized.whole));
          sums = p.sums b l;
          fields = p.fields b l;
        }

    crest : (records : List ℕ) × Blocks (block_count file) (block_count file) 0 file records → SoundFile file (record_bytes file)
    crest (records, row) =
        let c : SoundFile file records = record { blocks = block_count file; some = sized.some; at_most = sized.at_most; row = row } in
        rw (sound_file_records c) c

pub accepted→sound_file : (file : List ℕ) → check_of (file_crest file) ≡ Done → SoundFile file (record_bytes file) × AllHold (records_rules (record_bytes file))
accepted→sound_file file e = (blocks→sound_file file (accepted→blocks file e), (accepted→both file e).1)

-- ---- the number of records

-- "32 times 1 to 60"
pub count_fits_lem : (n : ℕ) → (count_fits n ≡ true) ↔ (((n % 32 ≡ 0) × (1 ≤ n / 32)) × (n / 32 ≤ 60))
unfolding count_fits
count_fits_lem n = both_tests (both_tests (eq_test _ _) (le_test _ _)) (le_test _ _)

-- the records of a crest are as many as the writer takes, and need as many blocks as the crest has
pub sound_file_count : {file records : List ℕ} (c : SoundFile file records) → (count_fits (length records) ≡ true) × (blocks_needed records ≡ c.blocks)
sound_file_count {records = records} c =
    let (n, long, f) = records_count c.row in
    let some = c.some in
    let few = c.at_most in
    ((count_fits_lem (length records)).1 ((omega arith, omega arith), omega arith), omega arith)
