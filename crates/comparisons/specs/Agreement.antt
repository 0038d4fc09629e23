-- When a row of each sort agrees with the definitions, by the bytes after its head; reference/rows.py has their layout.
use Rattle.std.specs.Prelude.{ℕ, Bool, true, false, not, cond, ◌&&◌, List, ◌++◌, eqb, leb, ℤ, pos, length, take, drop}
use Rattle.std.specs.Float.{binary64}
use Rattle.std.specs.Float.Ieee.{of_bits}
use Rattle.model.specs.declared.Element.{Element}
use Rattle.model.specs.declared.Point.{Point}
use Rattle.model.specs.declared.Outcome.{Outcome}
use Rattle.model.specs.declared.Outcome.TheVariants.{Done, Refused}
use Rattle.model.specs.declared.Located.{Located}
use Rattle.model.specs.declared.Located.TheVariants.{At, Refused as LocatedRefused}
use Rattle.model.specs.declared.Move.{Move}
use Rattle.model.specs.declared.Move.TheVariants.{By, Refused as MoveRefused}
use Rattle.model.specs.declared.Run.{Run}
use Rattle.model.specs.Records.{byte_at, u16_at, u32_at, i32_at, record_size}
use Rattle.model.specs.Refusals.{verdict}
use Rattle.model.specs.Acceptance.{element_of, record_rules}
use Rattle.model.specs.Series.{position_on, tangent_on}
use Rattle.model.specs.Crest.{file_crest, check_of}
use Rattle.model.specs.Answers.{located}
use Rattle.model.specs.Readings.{whole_of}
use Rattle.model.specs.Sightings.{observed_to, sighted_move}
use Rattle.model.specs.Calls.{reading_call, acknowledge_call}
use Rattle.model.specs.Program.{u64_at}
use Rattle.whole_numbers.specs.declared.WholeNumber.{WholeNumber}
use Rattle.whole_numbers.specs.declared.WholeNumber.TheVariants.{Is, Beyond, Not}
use Rattle.whole_numbers.specs.WholeNumbers.{beyond, negated_if, short_of}
use Rattle.comparisons.specs.declared.notes.Told.{Told}
use Rattle.comparisons.specs.Said.{i64_at, is_at}
use Rattle.comparisons.specs.Notes.{sighting_at, by_call, note_agrees, lent_agrees, display_agrees}

-- ---- ELEMENT

unfoldable pub accepts : Outcome → Bool
accepts Done = true
accepts (Refused why) = false

-- X, Y, Tx, Ty
unfoldable pub placement_is : List ℕ → Point → Point → Bool
placement_is row p t = is_at row 4 p.x && is_at row 12 p.y && is_at row 20 t.x && is_at row 28 t.y

-- at the row's station, where that is on the element
unfoldable pub element_agrees : List ℕ → Element → Bool
unfolding placement_is position_on tangent_on
element_agrees row e = let s = u32_at row 0 in leb s e.length && placement_is row (position_on e s) (tangent_on e s)

-- of a record that is accepted
unfoldable pub record_agrees : List ℕ → List ℕ → Bool
unfolding accepts verdict record_rules element_of element_agrees
record_agrees row rec = eqb (length rec) record_size && accepts (verdict (record_rules rec 0)) && element_agrees row (element_of rec)

-- ---- FILE

-- number and place, both 0 where the file is accepted
unfoldable pub outcome_is : ℕ → ℕ → Outcome → Bool
outcome_is number place Done = eqb number 0 && eqb place 0
outcome_is number place (Refused why) = not (eqb number 0) && eqb why.number number && eqb why.place place

unfoldable pub file_agrees : List ℕ → List ℕ → Bool
unfolding outcome_is verdict
file_agrees row file = outcome_is (u16_at row 0) (u16_at row 2) (check_of (file_crest file))

-- ---- POINT

-- offset, residual, station and visits, with these in the row's own widths
unfoldable pub point_says : List ℕ → ℕ → ℤ → ℤ → ℕ → Bool
point_says row station offset residual visits =
    is_at row 16 offset && is_at row 24 residual && eqb station (u32_at row 36) && eqb visits (u32_at row 40)

-- the number, 0 for an answer; a refusal has no place here, and zeros for the rest
unfoldable pub located_is : List ℕ → Located → Bool
unfolding point_says
located_is row (At station offset residual visits) = eqb (u32_at row 32) 0 && point_says row station offset residual visits
located_is row (LocatedRefused why) =
    not (eqb (u32_at row 32) 0) && eqb why.number (u32_at row 32) && eqb why.place 0 && point_says row 0 (pos 0) (pos 0) 0

unfoldable pub point_agrees : List ℕ → List ℕ → Bool
unfolding located_is
point_agrees row file = located_is row (located (file_crest file) (record { x = i64_at row 0; y = i64_at row 8 }))

-- ---- NUMBER

-- a whole number in the row's one: the least magnitude beyond every range with its sign for one beyond, 2^63 - 1 for none
unfoldable pub number_code : WholeNumber → ℤ
number_code (Is z) = z
number_code (Beyond negative) = negated_if negative beyond
number_code Not = pos 9223372036854775807

unfoldable pub number_agrees : List ℕ → Bool
unfolding number_code short_of whole_of
number_agrees row = is_at row 8 (number_code (short_of (whole_of (of_bits binary64 (u64_at row 0)))))

-- ---- CALL

-- what the row's call returns, on these bytes of the run, and the bytes afterwards; no call returns 2^32 - 1
unfoldable pub called_by : List ℕ → List ℕ → List ℕ → ℕ × List ℕ
unfolding reading_call acknowledge_call
called_by row file lent =
    by_call row (λ o. reading_call (observed_to (file_crest file) o) lent) (acknowledge_call lent) 56 (4294967295, lent)

-- whether the run's 32 bytes are the row's
unfoldable pub run_is : List ℕ → List ℕ → Bool
run_is row run =
    eqb (length run) 32
    && (eqb (u64_at run 0) (u64_at row 24) && eqb (u64_at run 8) (u64_at row 32) && eqb (u64_at run 16) (u64_at row 40) && eqb (u64_at run 24) (u64_at row 48))

-- Where the run has the bytes that are lent: the returned value, and the run's bytes afterwards.
unfoldable pub called_on : List ℕ → List ℕ → List ℕ → ℕ × List ℕ
unfolding called_by
called_on row file run =
    let lent = byte_at row 1 in
    let came = called_by row file (take lent run) in
    (came.0, came.1 ++ drop lent run)

unfoldable pub call_agrees : List ℕ → List ℕ → List ℕ → Bool
unfolding called_on run_is
call_agrees row file run =
    let came = called_on row file run in
    leb (byte_at row 1) (length run) && (eqb came.0 (u32_at row 4) && run_is row came.1)

unfoldable pub run_after_call : List ℕ → List ℕ → List ℕ → List ℕ
unfolding called_on
run_after_call row file run = cond (leb (byte_at row 1) (length run)) (called_on row file run).1 run

-- ---- MOVE

-- the number, 0 for a move; a refusal has no place, and zeros for forward and left
unfoldable pub move_is : List ℕ → Move → Bool
move_is row (By forward left) = eqb (u32_at row 0) 0 && is_at row 8 forward && is_at row 16 left
move_is row (MoveRefused why) = not (eqb (u32_at row 0) 0) && eqb why.number (u32_at row 0) && eqb why.place 0 && is_at row 8 (pos 0) && is_at row 16 (pos 0)

unfoldable pub move_agrees : List ℕ → Bool
unfolding move_is
move_agrees row = move_is row (sighted_move (sighting_at row 24) (record { x = i32_at row 52; y = i32_at row 56 }))

-- ---- a row of any sort

-- whether it agrees, and the run by value after it
unfoldable pub row_agrees : ℕ → List ℕ → List ℕ → List ℕ → Run → Told
unfolding record_agrees file_agrees point_agrees number_agrees call_agrees note_agrees lent_agrees display_agrees move_agrees
row_agrees sort row part bytes run =
    let told : Bool → Told = λ same. record { same = same; run = run } in
    cond (eqb sort 1) (told (record_agrees row part))
    (cond (eqb sort 2) (told (file_agrees row part))
    (cond (eqb sort 3) (told (point_agrees row part))
    (cond (eqb sort 4) (told (number_agrees row))
    (cond (eqb sort 5) (told (call_agrees row part bytes))
    (cond (eqb sort 6) (note_agrees row part run)
    (cond (eqb sort 7) (lent_agrees row part run)
    (cond (eqb sort 8) (told (display_agrees row part))
    (cond (eqb sort 9) (told (move_agrees row)) (told false)))))))))
