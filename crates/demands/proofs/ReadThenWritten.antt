-- The file of an accepted file's records is that file again: each of its blocks is the one that the writer makes of its records in use. So the file of a crest is the one file possible; and its records are those of its elements.
use Prim.Native.Nat.{ℕ, ◌*◌, ◌≤◌, ◌<◌}
use mathlib.Core.List.{List}
use mathlib.Core.Path.{◌≡◌, sym, subst, ap, ◌∙◌}
use native.Mathlib.Nat.{zero-add}
use native.Mathlib.Omega.{arith}
use lib.ListN.{length}
use lib.Seq.{take_all}
use Rattle.model.specs.declared.Outcome.TheVariants.{Done}
use Rattle.model.specs.Records.{put, record_bytes, record_start, count_of, record_of}
use Rattle.model.specs.Crest.{check_of, file_crest}
use Rattle.model.specs.Refusals.{Rule, verdict, for_each}
use Rattle.model.specs.Acceptance.{element_of, element_bytes, record_rules, element_at, each_record, records_rules, elements_of, crest_elements, elements_bytes}
use Rattle.model.specs.Writer.{blocks_from, file_of, room_after, written}
use Rattle.model.proofs.Verdict.{AllHold, more, all→done}
use Rattle.fields.proofs.Bytes.{AllBytes, part_bytes}
use Rattle.records.proofs.RecordBytes.{record_same, each_same}
use Rattle.crestfile.proofs.WriterRules.{rules_but_room, writer_done}
use Rattle.demands.proofs.WrittenThenRead.{written_then_read}
use Rattle.crestfile.proofs.Blocks.{rewritten}
use Rattle.crestfile.proofs.SoundFile.{SoundFile, accepted→sound_file, count_fits_lem, sound_file_count}
use Rattle.model.proofs.ForEach.{append_all, all→each}
use Rattle.crestfile.proofs.Part.{record_part}

crest_file : {file records : List ℕ} → AllBytes file → SoundFile file records → file_of records ≡ file
unfolding file_of
crest_file {records = records} bytes c = ap (λ n. blocks_from n 0 records) (sound_file_count c).1 ∙ rewritten c.row bytes

-- The writer's rules refuse nothing of an accepted file's records, and the file of these records is that file.
pub read_then_written : (file : List ℕ) → AllBytes file → check_of (file_crest file) ≡ Done → (verdict (rules_but_room (record_bytes file)) ≡ Done) × (file_of (record_bytes file) ≡ file)
read_then_written file bytes e =
    let (c, a) = accepted→sound_file file e in
    (all→done (more (sound_file_count c).0 a), crest_file bytes c)

-- So the writer, given an accepted file's records and room for the file, leaves the file in it.
pub written_again : (file room : List ℕ) → AllBytes file → check_of (file_crest file) ≡ Done → length file ≤ length room → written (record_bytes file) room ≡ put room 0 file
unfolding written room_after
written_again file room bytes e enough =
    let (rules, same) = read_then_written file bytes e in
    let size = (written_then_read (record_bytes file) rules).2 in
    let done = (writer_done (record_bytes file) (length room)).1 (rules, omega (arith, rw same at size)) in
    rw (done, same)

-- The file of a crest is the one file possible.
pub one_file : (file other : List ℕ) → AllBytes file → AllBytes other → check_of (file_crest file) ≡ Done → check_of (file_crest other) ≡ Done → record_bytes file ≡ record_bytes other → file ≡ other
one_file file other b₁ b₂ e₁ e₂ same =
    sym (read_then_written file b₁ e₁).1 ∙ ap file_of same ∙ (read_then_written other b₂ e₂).1

-- The records of an accepted file are those of its elements.
pub records_of_elements : (file : List ℕ) → AllBytes file → check_of (file_crest file) ≡ Done → elements_bytes (crest_elements file) ≡ record_bytes file
unfolding crest_elements elements_of records_rules each_record element_at
records_of_elements file b e =
    let (crest, rules) = accepted→sound_file file e in
    let fits = (count_fits_lem (length bytes)).0 (sound_file_count crest).0 in
    let each = all→each own (count_of bytes) 0 (append_all (for_each own (count_of bytes) 0) rules).0 in
    each_same (count_of bytes) 0 bytes (λ k h. one k (omega arith) (rw zero-add at (each k (omega arith)))) ∙ take_all (32 * count_of bytes) bytes (omega arith)
  where
    bytes : List ℕ
    bytes = record_bytes file

    own : ℕ → List Rule
    own r = record_rules (record_of bytes r) r

    one : (k : ℕ) → k < count_of bytes → AllHold (own k) → element_bytes (element_of (record_of bytes k)) ≡ record_of bytes k
    one k h a =
        let (same, within, long) = record_part file k e h in
        record_same (record_of bytes k) k (rw same at long) (subst AllBytes same (part_bytes file (record_start k) 32 b)) a
