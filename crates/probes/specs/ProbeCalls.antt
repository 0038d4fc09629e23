-- Calls for tests and tools: what each returns, and the lent room afterwards. 18 comes first, for room of another size than named.
use Rattle.std.specs.Prelude.{ℕ, List, [], ◌∷◌, eqb, length, ℤ}
use Rattle.model.specs.declared.Element.{Element}
use Rattle.model.specs.declared.Point.{Point}
use Rattle.model.specs.declared.Outcome.{Outcome}
use Rattle.model.specs.declared.Outcome.TheVariants.{Done, Refused}
use Rattle.model.specs.declared.Placed.{Placed}
use Rattle.model.specs.declared.Placed.TheVariants.{At as PlacedAt, Refused as PlacedRefused}
use Rattle.model.specs.declared.Located.{Located}
use Rattle.model.specs.declared.Located.TheVariants.{At as LocatedAt, Refused as LocatedRefused}
use Rattle.model.specs.declared.Inverse.{Inverse}
use Rattle.model.specs.declared.Inverse.TheVariants.{At as InverseAt, Refused as InverseRefused}
use Rattle.model.specs.Records.{record_size, field, put_all, u32_bytes, i32_bytes}
use Rattle.model.specs.Refusals.{rule₀, or_refused, wrong_room}
use Rattle.model.specs.Crest.{Crest}
use Rattle.model.specs.Answers.{PaperAnswer, code, paper_of_outcome, reader_outcome, reader_part, Question, answer_after, station_question, paper_of_placed, point_question, paper_of_located, place_question, paper_of_inverse}

-- room for two numbers of 32 bits and for four, and where each lies
abbrev pub two_size : ℕ
two_size = 8

abbrev pub four_size : ℕ
four_size = 16

abbrev pub slot_a : ℕ
slot_a = 0

abbrev pub slot_b : ℕ
slot_b = 4

abbrev pub slot_c : ℕ
slot_c = 8

abbrev pub slot_d : ℕ
slot_d = 12

-- a question to a crest in room of n bytes: 18 for other room, then the crest's own refusals and the question's
unfoldable pub call_of : {A : Type 0} → (A → PaperAnswer) → (A → List ℕ → List ℕ) → ℕ → (List Element → Question A) → Crest → List ℕ → ℕ × List ℕ
unfolding code answer_after
call_of paper_of bytes n question c room =
    let answer = answer_after (rule₀ wrong_room (eqb (length room) n) ∷ c.rules) (question c.elements) in
    (code (paper_of answer), bytes answer room)

-- ---- X, Y, Tx, Ty, each i32

unfoldable pub placed_bytes : Placed → List ℕ → List ℕ
unfolding put_all
placed_bytes (PlacedAt x y tx ty) old = put_all old (field slot_a (i32_bytes x) ∷ field slot_b (i32_bytes y) ∷ field slot_c (i32_bytes tx) ∷ field slot_d (i32_bytes ty) ∷ [])
placed_bytes (PlacedRefused r) old = old

abbrev pub position_call : Crest → ℤ → List ℕ → ℕ × List ℕ
position_call c s room = call_of paper_of_placed placed_bytes four_size (station_question s) c room

-- ---- station and visits, u32, offset and residual, i32

unfoldable pub located_bytes : Located → List ℕ → List ℕ
unfolding put_all
located_bytes (LocatedAt station offset residual visits) old =
    put_all old (field slot_a (u32_bytes station) ∷ field slot_b (i32_bytes offset) ∷ field slot_c (i32_bytes residual) ∷ field slot_d (u32_bytes visits) ∷ [])
located_bytes (LocatedRefused r) old = old

abbrev pub locate_call : Crest → Point → List ℕ → ℕ × List ℕ
locate_call c p room = call_of paper_of_located located_bytes four_size (point_question p) c room

-- ---- X, Y, each i32

unfoldable pub inverse_bytes : Inverse → List ℕ → List ℕ
unfolding put_all
inverse_bytes (InverseAt x y) old = put_all old (field slot_a (i32_bytes x) ∷ field slot_b (i32_bytes y) ∷ [])
inverse_bytes (InverseRefused r) old = old

abbrev pub inverse_call : Crest → ℤ → ℤ → List ℕ → ℕ × List ℕ
inverse_call c s w room = call_of paper_of_inverse inverse_bytes two_size (place_question s w) c room

-- ---- a record, copied

-- it takes all of the room; a refusal leaves the room as it came
unfoldable pub record_room : Outcome → List ℕ → List ℕ → List ℕ
record_room Done this room = this
record_room (Refused why) this room = room

-- the reader's refusals, "station, offset or record number out of range" the last of them; and the part that it "hands back", copied
unfoldable pub record_call : List ℕ → ℕ → List ℕ → ℕ × List ℕ
unfolding or_refused reader_outcome reader_part code paper_of_outcome record_room
record_call file r room =
    let o = or_refused (eqb (length room) record_size) wrong_room 0 (reader_outcome file r) in
    (code (paper_of_outcome o), record_room o (reader_part file r) room)
