-- Document 01, "Marked examples": the fourteen examples as one table of questions and expected answers.
use Rattle.std.specs.Prelude.{ℕ, List, [], ◌∷◌, ◌++◌, map, ℤ, pos, neg_ℤ}
use Rattle.model.specs.declared.Point.{Point}
use Rattle.model.specs.Rounding.{ONE}
use Rattle.model.specs.Refusals.{Reason, refusal, too_far, before_start, after_end}
use Rattle.model.specs.Records.{u32_bytes, i32_bytes}
use Rattle.model.specs.Acceptance.{crest_rules, crest_elements}
use Rattle.model.specs.Crest.{file_crest}
use Rattle.model.specs.Writer.{file_of}
use Rattle.model.specs.Walk.{visits}
use Rattle.model.specs.Answers.{PaperAnswer, answered_with, refused_with, answer_after, station_question, placed, paper_of_placed, point_question, located, paper_of_located, place_question, inverse, paper_of_inverse, move_question, stake_out, paper_of_move}

abbrev pub point : ℤ → ℤ → Point
point x y = record { x = x; y = y }

-- The bytes of a record whose anchor is (0, 0) and whose direction is (ONE, 0): kind byte, length and radius; and the crest file of it alone.
unfoldable pub one_record : ℕ → ℕ → ℤ → List ℕ
one_record kind length radius =
    (kind ∷ 0 ∷ 0 ∷ 0 ∷ [])
    ++ (u32_bytes length
    ++ (i32_bytes (pos 0) ++ (i32_bytes (pos 0) ++ (i32_bytes (pos ONE) ++ (i32_bytes (pos 0) ++ (i32_bytes radius ++ u32_bytes 0))))))

unfoldable pub crest : ℕ → ℕ → ℤ → List ℕ
unfolding one_record file_of
crest kind length radius = file_of (one_record kind length radius)

-- "Crest K: one line, L = 10,000, anchor (0, 0), direction (ONE, 0)."
unfoldable pub K : List ℕ
unfolding crest
K = crest 1 10000 (pos 0)

-- A question to a crest file, but the last, which has none.
pub data ExampleQuestion : Type 0 where
  -- station, offset and residual of a point
  locate : List ℕ → Point → ExampleQuestion
  -- whether a point is answered: its number alone
  accept : List ℕ → Point → ExampleQuestion
  -- the stations that the walk visits, and the count that the answer carries
  walk : List ℕ → Point → ExampleQuestion
  -- the point at a station and an offset
  invert : List ℕ → ℤ → ℤ → ExampleQuestion
  -- the position at a station
  place : List ℕ → ℤ → ExampleQuestion
  -- the move from an own point to a target, by a heading
  stake : Point → Point → ℤ → ℤ → ExampleQuestion

abbrev pub first_two : List ℤ → List ℤ
first_two [] = []
first_two (a ∷ []) = a ∷ []
first_two (a ∷ b ∷ more) = a ∷ b ∷ []

abbrev pub first_three : List ℤ → List ℤ
first_three [] = []
first_three (a ∷ []) = a ∷ []
first_three (a ∷ b ∷ []) = a ∷ b ∷ []
first_three (a ∷ b ∷ c ∷ more) = a ∷ b ∷ c ∷ []

abbrev pub after_three : List ℤ → List ℤ
after_three [] = []
after_three (a ∷ []) = []
after_three (a ∷ b ∷ []) = []
after_three (a ∷ b ∷ c ∷ more) = more

abbrev pub values_by : (List ℤ → List ℤ) → PaperAnswer → PaperAnswer
values_by f p = record { number = p.number; place = p.place; values = f p.values }

unfoldable pub answer_for : ExampleQuestion → PaperAnswer
unfolding answer_after paper_of_located point_question paper_of_inverse place_question paper_of_placed station_question paper_of_move move_question visits crest_rules crest_elements
answer_for (locate file p) = values_by first_three (paper_of_located (located (file_crest file) p))
answer_for (accept file p) = values_by (λ v. []) (paper_of_located (located (file_crest file) p))
answer_for (walk file p) = values_by (λ v. map pos (visits (crest_elements file) p) ++ after_three v) (paper_of_located (located (file_crest file) p))
answer_for (invert file s w) = paper_of_inverse (inverse (file_crest file) s w)
answer_for (place file s) = values_by first_two (paper_of_placed (placed (file_crest file) s))
answer_for (stake own target c s) = paper_of_move (stake_out own target c s)

abbrev pub refused_by : Reason → ℕ → PaperAnswer
refused_by why zeros = refused_with (refusal why 0) zeros

pub record Example : Type 0 where
  pub question : ExampleQuestion
  pub expected : PaperAnswer

infix 30 ◌gives◌
abbrev pub ◌gives◌ : ExampleQuestion → PaperAnswer → Example
q gives e = record { question = q; expected = e }

unfoldable pub examples : List Example
unfolding refusal K crest
examples =
    -- 1 and 2, of which the second is a tie with 6
    (locate K (point (pos 512) (pos 300)) gives answered_with (pos 5 ∷ pos 300 ∷ pos 12 ∷ []))
    ∷ (locate K (point (pos 550) (pos 300)) gives answered_with (pos 5 ∷ pos 300 ∷ pos 50 ∷ []))
    -- 3 and 4
    ∷ (locate K (point (neg_ℤ (pos 100)) (pos 0)) gives answered_with (pos 0 ∷ pos 0 ∷ neg_ℤ (pos 100) ∷ []))
    ∷ (locate K (point (neg_ℤ (pos 101)) (pos 0)) gives refused_by before_start 3)
    -- 5 and 6
    ∷ (locate K (point (pos 1000100) (pos 0)) gives answered_with (pos 10000 ∷ pos 0 ∷ pos 100 ∷ []))
    ∷ (locate K (point (pos 1000101) (pos 0)) gives refused_by after_end 3)
    -- 7 and 8
    ∷ (accept K (point (pos 500000) (pos 20000000)) gives answered_with [])
    ∷ (accept K (point (pos 500000) (pos 20000001)) gives refused_by too_far 0)
    -- 9
    ∷ (invert K (pos 5) (pos 300) gives answered_with (pos 500 ∷ pos 300 ∷ []))
    -- 10, 11 and 12
    ∷ (place (crest 2 200000 (pos 1000000)) (pos 100000) gives answered_with (pos 9983342 ∷ pos 499583 ∷ []))
    ∷ (place (crest 3 200000 (pos 1000000)) (pos 200000) gives answered_with (pos 19980009 ∷ pos 666191 ∷ []))
    ∷ (place (crest 4 200000 (pos 1000000)) (pos 0) gives answered_with (neg_ℤ (pos 19980009) ∷ pos 666191 ∷ []))
    -- 13
    ∷ (stake (point (pos 0) (pos 0)) (point (pos 100) (pos 200)) (pos 0) (pos ONE) gives answered_with (pos 200 ∷ neg_ℤ (pos 100) ∷ []))
    -- 14: "visits 0, 3, then 0, 1, 2; count 5"
    ∷ (walk (crest 1 3 (pos 0)) (point (pos 0) (pos 0)) gives answered_with (pos 0 ∷ pos 3 ∷ pos 0 ∷ pos 1 ∷ pos 2 ∷ pos 5 ∷ []))
    ∷ []

abbrev pub actual : Example → PaperAnswer
actual e = answer_for e.question

abbrev pub due : Example → PaperAnswer
due e = e.expected
