-- Demand 2: "Position, direction, station, offset, inverse point and stake-out move are exactly the numbers that document 01 gives, and each position's distances along and
-- across lie within its bound of the series sum. A crest file written from accepted records reads back as those records, and the file of a crest is the one file possible."
-- Its first words are the functions' promises: each is an equation with the definition of its number.
use Prim.Native.Nat.{ℕ, ◌<◌, ◌≤◌}
use mathlib.Core.Bool.{true, false}
use mathlib.Core.List.{List, ◌++◌}
use mathlib.Core.Logic.{◌≢◌}
use mathlib.Core.Path.{◌≡◌, sym, ◌∙◌, ap}
use native.Mathlib.Nat.{zero-add}
use lib.ListN.{length, take, drop, set}
use lib.Seq.{take-append_seam, drop-append_seam}
use borrow.Author.Tests.{lt-ltb}
use Rattle.model.specs.declared.Element.{Element}
use Rattle.model.specs.declared.Outcome.TheVariants.{Done}
use Rattle.model.specs.Records.{byte_at, put, record_bytes, count_of, record_of}
use Rattle.model.specs.Refusals.{verdict, or_refused}
use Rattle.model.specs.Bound.{Bounded}
use Rattle.model.specs.Acceptance.{sums_agree, crest_rules, crest_elements, elements_bytes}
use Rattle.model.specs.Accepted.{Accepted, AlignmentAccepted}
use Rattle.model.specs.Crest.{Crest, check_of, SoundCrest, file_crest}
use Rattle.model.specs.Stations.{total, at_station}
use Rattle.model.specs.Writer.{file_of, writer_outcome, room_after, written}
use Rattle.model.specs.Answers.{reader_outcome, span_if, reader_span, reader_part}
use Rattle.model.proofs.Verdict.{verdict_after}
use Rattle.elements.proofs.Bound as bound
use Rattle.stations.proofs.StationAt.{at_accepted}
use Rattle.fields.proofs.Bytes.{AllBytes}
use Rattle.demands.proofs.WrittenThenRead as writing
use Rattle.crestfile.proofs.WriterRules.{writer_done}
use Rattle.crestfile.proofs.Part.{record_part}
use Rattle.demands.proofs.ReadThenWritten as reading
use Rattle.demands.proofs.WrittenBytes as bytes
use Rattle.blocks.proofs.SingleByte as changed

-- ---- "each position's distances along and across lie within its bound of the series sum"

-- on an accepted element
pub bounded : (e : Element) → Accepted e → (s : ℕ) → s ≤ e.length → Bounded e s
bounded = bound.bounded

-- at every station of an accepted alignment, on the element there
pub bounded_at : (es : List Element) → AlignmentAccepted es → (s : ℕ) → s ≤ total es → let at = at_station es s in Bounded at.element at.s
bounded_at es a s h = let g = at_accepted es s a.some a.each h in bounded _ g.accepted _ g.within

-- so of an accepted crest of any source
pub crest_bounded_at : (c : Crest) → SoundCrest c → check_of c ≡ Done → (s : ℕ) → s ≤ total c.elements → let at = at_station c.elements s in Bounded at.element at.s
crest_bounded_at c sound e s h = bounded_at c.elements (sound.accepted e) s h

-- ---- "A crest file written from accepted records reads back as those records"

-- where the writer refuses nothing, what it leaves in the room starts with a file that is accepted and holds the records given
pub written_reads_back : (records : List ℕ) (room : ℕ) → writer_outcome records room ≡ Done → (check_of (file_crest (file_of records)) ≡ Done) × (record_bytes (file_of records) ≡ records)
written_reads_back records room e = let w = writing.written_then_read records ((writer_done records room).0 e).0 in (w.0, w.1)

pub written_file : (records room : List ℕ) → writer_outcome records (length room) ≡ Done → written records room ≡ put room 0 (file_of records)
unfolding written room_after
written_file records room e = rw e

-- bytes put at the start
put_first : (room bytes : List ℕ) → put room 0 bytes ≡ bytes ++ drop (length bytes) room
unfolding put
put_first room bytes = ap (λ (n : ℕ). bytes ++ drop n room) (zero-add (length bytes))

module _ (records room : List ℕ) (done : writer_outcome records (length room) ≡ Done) where
  -- the front of the room is the file, and the rest is as it came
  pub written_front : take (length (file_of records)) (written records room) ≡ file_of records
  written_front = rw (written_file records room done, put_first room (file_of records)) (take-append_seam (file_of records) (drop (length (file_of records)) room))

  pub written_rest : drop (length (file_of records)) (written records room) ≡ drop (length (file_of records)) room
  written_rest = rw (written_file records room done, put_first room (file_of records)) (drop-append_seam (file_of records) (drop (length (file_of records)) room))

  -- and the reader hands back each record given
  pub record_reads_back : (r : ℕ) → r < count_of records → (reader_outcome (file_of records) r ≡ Done) × (reader_part (file_of records) r ≡ record_of records r)
  unfolding reader_outcome reader_part reader_span span_if verdict or_refused
  record_reads_back r h =
      let (accepted, same) = written_reads_back records (length room) done in
      let file = file_of records in
      let outcome : reader_outcome file r ≡ Done = verdict_after (crest_rules file) _ accepted ∙ rw (same, lt-ltb r (count_of records) h) in
      (outcome, rw outcome ((record_part file r accepted (rw same h)).0 ∙ ap (λ (l : List ℕ). record_of l r) same))

-- ---- "and the file of a crest is the one file possible"

-- two accepted files with the same records are the same bytes
pub one_file : (file other : List ℕ) → AllBytes file → AllBytes other → check_of (file_crest file) ≡ Done → check_of (file_crest other) ≡ Done → record_bytes file ≡ record_bytes other → file ≡ other
one_file = reading.one_file

-- "A crest alignment is 1 to 60 elements read from blocks.": two accepted files with the same elements are the same bytes, since an accepted file is the file of its elements
pub file_of_its_elements : (file : List ℕ) → AllBytes file → check_of (file_crest file) ≡ Done → file_of (elements_bytes (crest_elements file)) ≡ file
file_of_its_elements file b e = ap file_of (reading.records_of_elements file b e) ∙ (reading.read_then_written file b e).1

pub one_file_per_crest : (file other : List ℕ) → AllBytes file → AllBytes other → check_of (file_crest file) ≡ Done → check_of (file_crest other) ≡ Done → crest_elements file ≡ crest_elements other → file ≡ other
one_file_per_crest file other b₁ b₂ e₁ e₂ same =
    sym (file_of_its_elements file b₁ e₁) ∙ ap (λ es. file_of (elements_bytes es)) same ∙ file_of_its_elements other b₂ e₂

-- an accepted file is the file of its records, which the writer leaves in any room that is long enough
pub file_of_its_records : (file : List ℕ) → AllBytes file → check_of (file_crest file) ≡ Done → file_of (record_bytes file) ≡ file
file_of_its_records file bytes e = (reading.read_then_written file bytes e).1

pub written_again : (file room : List ℕ) → AllBytes file → check_of (file_crest file) ≡ Done → length file ≤ length room → written (record_bytes file) room ≡ put room 0 file
written_again = reading.written_again

-- What the writer makes of bytes is bytes, and of one changed byte in a block A or B tells.
pub file_bytes : (records : List ℕ) → AllBytes records → AllBytes (file_of records)
file_bytes = bytes.file_bytes

pub single_byte : (block : List ℕ) (i v : ℕ) → AllBytes block → length block ≡ 512 → sums_agree block ≡ true → i < 512 → v < 256 → v ≢ byte_at block i → sums_agree (set block i v) ≡ false
single_byte = changed.single_byte
