-- When a call on a run by value, or on a run that is lent, agrees with its row; and a display pair with its own.
use Rattle.std.specs.Prelude.{ℕ, ◌+◌, Bool, false, cond, ◌&&◌, List, eqb, ℤ, pos}
use Rattle.std.specs.Float.{binary64}
use Rattle.std.specs.Float.Ieee.{of_bits}
use Rattle.std.specs.Int.{w32}
use Rattle.std.proofs.Common.{of_z}
use Rattle.model.specs.declared.Display.{Display}
use Rattle.model.specs.declared.Reading.TheVariants.{PlanePoint, LinePlace}
use Rattle.model.specs.declared.Sighting.{Sighting}
use Rattle.model.specs.declared.Observation.{Observation}
use Rattle.model.specs.declared.Observation.TheVariants.{Read, Sighted}
use Rattle.model.specs.declared.ReadingAnswer.{ReadingAnswer}
use Rattle.model.specs.declared.ReadingAnswer.TheVariants.{PlanePoint as AnswerPoint, LinePlace as AnswerPlace, Refused as AnswerRefused}
use Rattle.model.specs.declared.Run.{Run}
use Rattle.model.specs.Records.{byte_at, u16_at, i32_at, part}
use Rattle.model.specs.Crest.{file_crest}
use Rattle.model.specs.Readings.{display_of}
use Rattle.model.specs.Sightings.{observed_to}
use Rattle.model.specs.Run.{run_size, run_at, acknowledged, noted}
use Rattle.model.specs.Calls.{sighting_of}
use Rattle.model.specs.Program.{u64_at}
use Rattle.comparisons.specs.declared.notes.Told.{Told}
use Rattle.comparisons.specs.Said.{is_at, float_is_at}

-- the row's reading, of one sort or the other
abbrev pub plane_of : List ℕ → Observation
plane_of row = Read (PlanePoint (of_bits binary64 (u64_at row 8)) (of_bits binary64 (u64_at row 16)))

abbrev pub line_of : List ℕ → Observation
line_of row = Read (LinePlace (of_bits binary64 (u64_at row 8)) (of_bits binary64 (u64_at row 16)))

-- the row's sighting, whose seven numbers begin at a place
abbrev pub sighting_at : List ℕ → ℕ → Sighting
sighting_at row at = sighting_of (i32_at row at) (i32_at row (at + 4)) (i32_at row (at + 8)) (i32_at row (at + 12)) (i32_at row (at + 16)) (i32_at row (at + 20)) (i32_at row (at + 24))

abbrev pub sighted_at : List ℕ → ℕ → Observation
sighted_at row at = Sighted (sighting_at row at)

-- ---- an answer

-- case (0 none, 1 plane point, 2 line place, 3 refused), number and place
unfoldable pub head_is : List ℕ → ℕ → ℕ → ℕ → Bool
head_is row case number place = eqb (byte_at row 1) case && eqb (u16_at row 2) number && eqb (u16_at row 4) place

-- and four values
unfoldable pub answer_says : List ℕ → ℕ → ℕ → ℕ → ℤ → ℤ → ℤ → ℤ → Bool
unfolding head_is
answer_says row case number place one two three four =
    head_is row case number place && is_at row 24 one && is_at row 32 two && is_at row 40 three && is_at row 48 four

unfoldable pub answer_is : List ℕ → ReadingAnswer → Bool
unfolding answer_says
answer_is row (AnswerPoint station offset residual visits) = answer_says row 1 0 0 (pos station) offset residual (pos visits)
answer_is row (AnswerPlace x y) = answer_says row 2 0 0 x y (pos 0) (pos 0)
answer_is row (AnswerRefused why) = answer_says row 3 why.number why.place (pos 0) (pos 0) (pos 0) (pos 0)

-- ---- a run, and a display pair

unfoldable pub same_fields : Run → Run → Bool
same_fields a b =
    eqb a.answered b.answered
    && eqb a.refused b.refused
    && eqb a.latest b.latest
    && eqb a.first b.first
    && eqb a.reading b.reading
    && eqb (of_z w32 a.one) (of_z w32 b.one)
    && eqb (of_z w32 a.two) (of_z w32 b.two)
    && eqb (of_z w32 a.three) (of_z w32 b.three)

-- whether a run is the one that bytes 56 to 79 spell, in which the zero is one
unfoldable pub run_in : List ℕ → Run → Bool
unfolding same_fields run_at
run_in row run = same_fields (run_at (part row 56 run_size)) run && eqb (u16_at row 66) 0

-- bit for bit
unfoldable pub display_is_at : List ℕ → ℕ → Display → Bool
unfolding float_is_at
display_is_at row at d = float_is_at row at d.station && float_is_at row (at + 8) d.offset

-- ---- a call: whether it agrees, and the run after it

-- an acknowledgement has no answer and no display pair
unfoldable pub acknowledged_told : List ℕ → Run → Told
unfolding answer_says run_in
acknowledged_told row after =
    record { same = answer_says row 0 0 0 (pos 0) (pos 0) (pos 0) (pos 0) && is_at row 80 (pos 0) && is_at row 88 (pos 0) && run_in row after; run = after }

-- a reading on a run by value, by what it comes to on the crest
unfoldable pub noted_told : List ℕ → ReadingAnswer → Run → Told
unfolding answer_is display_is_at run_in noted display_of
noted_told row a run =
    let n = noted a run in
    record { same = answer_is row n.answer && display_is_at row 80 (display_of n.answer) && run_in row n.run; run = n.run }

-- a reading on a run that is lent
unfoldable pub lent_told : List ℕ → ReadingAnswer → Run → Told
unfolding answer_is run_in noted
lent_told row a run = let n = noted a run in record { same = answer_is row n.answer && run_in row n.run; run = n.run }

-- the row's call: a plane reading, a line reading, an acknowledgement or a sighting
abbrev pub by_call : {A : Type 0} → List ℕ → (Observation → A) → A → ℕ → A → A
by_call row observed acknowledge at none =
    let sort = byte_at row 0 in
    cond (eqb sort 0) (observed (plane_of row)) (cond (eqb sort 1) (observed (line_of row)) (cond (eqb sort 2) acknowledge (cond (eqb sort 3) (observed (sighted_at row at)) none)))

unfoldable pub note_agrees : List ℕ → List ℕ → Run → Told
unfolding noted_told acknowledged_told acknowledged
note_agrees row file run =
    by_call row (λ o. noted_told row (observed_to (file_crest file) o) run) (acknowledged_told row (acknowledged run)) 96 (record { same = false; run = run })

unfoldable pub lent_agrees : List ℕ → List ℕ → Run → Told
unfolding lent_told acknowledged_told acknowledged
lent_agrees row file run =
    by_call row (λ o. lent_told row (observed_to (file_crest file) o) run) (acknowledged_told row (acknowledged run)) 96 (record { same = false; run = run })

-- ---- DISPLAY

unfoldable pub display_agrees : List ℕ → List ℕ → Bool
unfolding display_is_at display_of
display_agrees row file =
    by_call row (λ o. display_is_at row 24 (display_of (observed_to (file_crest file) o))) false 40 false
