-- What the writer writes is accepted, and reads back as the records that it was given: its blocks are a row of sound blocks for these records.
use Prim.Native.Nat.{ℕ, ◌*◌}
use mathlib.Core.Bool.{true}
use mathlib.Core.List.{List}
use mathlib.Core.Path.{◌≡◌}
use native.Mathlib.Nat.{zero-add}
use native.Mathlib.Omega.{arith}
use lib.ListN.{length}
use Rattle.model.specs.declared.Outcome.TheVariants.{Done}
use Rattle.model.specs.Records.{record_bytes, count_of}
use Rattle.model.specs.Crest.{check_of, file_crest}
use Rattle.model.specs.Refusals.{verdict}
use Rattle.model.specs.Writer.{blocks_needed, file_of, count_fits}
use Rattle.model.proofs.Verdict.{AllHold, more, done→all}
use Rattle.crestfile.proofs.WriterRules.{rules_but_room}
use Rattle.crestfile.proofs.Blocks.{file_length, records_row}
use Rattle.crestfile.proofs.SoundFile.{SoundFile, sound_file_records, sound_file→accepted, count_fits_lem, sound_file_count}

file_crest_lem : (records : List ℕ) → count_fits (length records) ≡ true → SoundFile (file_of records) records
unfolding file_of
file_crest_lem records h =
    let fit = (count_fits_lem (length records)).0 h in
    let n = blocks_needed records in
    record {
      blocks = n;
      some = omega arith;
      at_most = omega arith;
      row = records_row n n 0 (count_of records) records (omega arith) (zero-add n) (omega arith) (omega arith) (record { most = omega arith; least = omega arith });
    }

-- Where the writer's rules on its records refuse nothing, the file of the records is accepted, holds these records, and is as long as the blocks needed.
pub written_then_read : (records : List ℕ) → verdict (rules_but_room records) ≡ Done → (check_of (file_crest (file_of records)) ≡ Done) × (record_bytes (file_of records) ≡ records) × (length (file_of records) ≡ 512 * blocks_needed records)
written_then_read records e = go (done→all (rules_but_room records) e)
  where
    go : AllHold (rules_but_room records) → (check_of (file_crest (file_of records)) ≡ Done) × (record_bytes (file_of records) ≡ records) × (length (file_of records) ≡ 512 * blocks_needed records)
    go (more h a) =
        let c = file_crest_lem records h in
        (sound_file→accepted c a, sound_file_records c, rw (sound_file_count c).1 (file_length c.row))
