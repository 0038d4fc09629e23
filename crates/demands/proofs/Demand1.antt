-- Demand 1: "Any bytes, any reading and any order of calls end in an answer or in a numbered refusal from the table. A refusal carries no station, offset or point, and lent
-- room other than the run record stays as it came. The run record shows the outcome of the latest counted reading only, and keeps the first counted refusal since the last
-- acknowledgement."
use Prim.Native.Nat.{ℕ, ◌+◌, ◌*◌, ◌%◌, ◌≤◌}
use mathlib.Core.Bool.{Bool, true, false}
use mathlib.Core.List.{List, [], ◌∷◌, ◌++◌}
use mathlib.Core.Logic.{◌≢◌, ◌⊎◌, inl, inr, ◌↔◌}
use mathlib.Core.Path.{◌≡◌, refl, sym, ◌∙◌, ap, subst}
use native.Mathlib.Nat.{add-zero}
use native.Mathlib.Omega.{arith}
use native.Mathlib.Decide.{ℕ_discrete}
use lib.Dec.{eqb, ltb}
use borrow.Author.Tests.{eqb-true, eq-eqb}
use lib.ListN.{length, take, drop, replicate, length-append}
use lib.Seq.{take-append_seam, drop-append_seam}
use lib.IntN.{ℤ, pos, neg_ℤ}
use Rattle.model.specs.declared.Point.{Point}
use Rattle.model.specs.declared.Refusal.{Refusal}
use Rattle.model.specs.declared.Outcome.{Outcome}
use Rattle.model.specs.declared.Outcome.TheVariants.{Done, Refused}
use Rattle.model.specs.declared.Placed.TheVariants.{Refused as PlacedRefused}
use Rattle.model.specs.declared.Located.TheVariants.{Refused as LocatedRefused}
use Rattle.model.specs.declared.Inverse.TheVariants.{Refused as InverseRefused}
use Rattle.model.specs.declared.Move.{Move}
use Rattle.model.specs.declared.Move.TheVariants.{By, Refused as MoveRefused}
use Rattle.model.specs.declared.Reading.{Reading}
use Rattle.model.specs.declared.Sighting.{Sighting}
use Rattle.model.specs.declared.Observation.{Observation}
use Rattle.model.specs.declared.Observation.TheVariants.{Read, Sighted}
use Rattle.model.specs.declared.ReadingAnswer.{ReadingAnswer}
use Rattle.model.specs.declared.Run.{Run}
use Rattle.model.specs.declared.ReadingAnswer.TheVariants.{PlanePoint as AnswerPoint, LinePlace as AnswerPlace, Refused as AnswerRefused}
use Rattle.model.specs.Refusals.{Reason, last_number, asked_out_of_range, run_full, wrong_room, Rule, number, refusal, rule₀, verdict}
use Rattle.model.specs.Acceptance.{crest_rules}
use Rattle.model.specs.Crest.{Crest, check_of, file_crest, SoundCrest}
use Rattle.model.specs.Records.{byte_at, record_bytes, count_of}
use Rattle.model.specs.Writer.{writer_rules, writer_outcome, room_after, written}
use Rattle.model.specs.Answers.{PaperAnswer, paper_if, code, paper_of_outcome, Question, answer_after, paper_after, reader_outcome, span_if, reader_span, reader_part, placed, paper_of_placed, located, paper_of_located, inverse, paper_of_inverse, forward_of, left_of, move_rules, move_question, stake_out, paper_of_move}
use Rattle.model.specs.Readings.{refuses_reading, answer_to, value_count, paper_of_reading, zero_float, display_of}
use Rattle.model.specs.Sightings.{turned_of, sighted_of, sighted_to, observed_question, observed_to, observed_count, sighted_move_question, sighted_move}
use Rattle.model.specs.Run.{shown_of, is_full, run_at, run_bytes, counted, acknowledged}
use Rattle.model.specs.Calls.{reading_call, acknowledge_call, check_call, write_call, move_size, move_bytes, move_call, stake_out_call, sighting_stake_out_call}
use Rattle.model.specs.Histories.{Call, read, acknowledge, Came, reading, sighting, AllCame, none, asked, acknowledged_next, after_call, after_calls, bytes_after_call, bytes_after_calls, fresh_bytes, demanded}
use Rattle.model.proofs.Verdict.{reason_numbered, AllHold, more, Cause, order_outcome, refused→first, refused_before, done→all, all→done}
use Rattle.model.proofs.Answers.{Tells, told_refused, told_paper, told_exactly, told_answered, station_tells, point_tells, place_tells, move_tells, reading_tells, sighting_tells, sighted_move_tells}
use Rattle.run.specs.Stored.{Storable}
use Rattle.run.proofs.Refused.{refuses_numbered, AsRead, observed_as_read, Zeros, refusal_shows_zeros}
use Rattle.run.proofs.Noting.{noted_counted}
use Rattle.run.proofs.Calls.{reading_18, reading_16, reading_counted, not_counted_unchanged, acknowledge_18, acknowledge_0}
use Rattle.model.proofs.Reasons.{first_holds, rest_hold}
use Rattle.fields.proofs.Bytes.{AllBytes}
use Rattle.sources.proofs.Sound.{file_sound}
use Rattle.readings.proofs.Storable.{answer_storable}
use Rattle.demands.proofs.Histories.{ReadingsFit, bytes_spelled, bytes_follow_run, bytes_show_run, bytes_show_demanded, history_keeps, fresh_bytes_keep}
use Rattle.demands.proofs.Lendings.{Lending, LentWithin, room_after_all, on_run, lent_history}

-- ---- "Any bytes .. end in an answer or in a numbered refusal from the table."

-- a crest is accepted where all its rules hold, and else refused by the first that does not; any bytes are a file's crest
pub any_crest : (c : Crest) → (check_of c ≡ Done × AllHold c.rules) ⊎ ((why : Refusal) × (check_of c ≡ Refused why) × Cause c.rules why)
any_crest c = order_outcome c.rules

pub any_bytes : (file : List ℕ) → (check_of (file_crest file) ≡ Done × AllHold (crest_rules file)) ⊎ ((why : Refusal) × (check_of (file_crest file) ≡ Refused why) × Cause (crest_rules file) why)
any_bytes file = any_crest (file_crest file)

-- whatever is refused has a number of the table
abbrev pub Numbered : Refusal → Type 0
Numbered why = (1 ≤ why.number) × (why.number ≤ last_number)

pub refused_numbered : (rs : List Rule) (why : Refusal) → verdict rs ≡ Refused why → Numbered why
unfolding refusal
refused_numbered rs why e =
    let c = refused→first rs why e in
    subst Numbered (sym c.gives) (reason_numbered c.rule.why)

-- ---- "any reading"

-- a reading on a crest of any source is answered, or refused with one of the crest's own numbers or of 10 to 15
pub any_reading : (c : Crest) → SoundCrest c → (r : Reading) (why : Refusal) → answer_to c r ≡ AnswerRefused why → refuses_reading why.number ≡ true
unfolding observed_question
any_reading c sound r = observed_as_read c sound (Read r)

-- and so is a sighting
pub any_sighting : (c : Crest) → SoundCrest c → (k : Sighting) (why : Refusal) → sighted_to c k ≡ AnswerRefused why → refuses_reading why.number ≡ true
unfolding observed_question
any_sighting c sound k = observed_as_read c sound (Sighted k)

-- ---- the other calls by value

-- the crest's own, the writer's and the reader's
pub any_check : (c : Crest) (why : Refusal) → check_of c ≡ Refused why → Numbered why
any_check c = refused_numbered c.rules

pub any_write : (records : List ℕ) (room : ℕ) (why : Refusal) → writer_outcome records room ≡ Refused why → Numbered why
unfolding writer_outcome
any_write records room = refused_numbered (writer_rules records room)

pub any_record : (file : List ℕ) (r : ℕ) (why : Refusal) → reader_outcome file r ≡ Refused why → Numbered why
unfolding reader_outcome
any_record file r = refused_numbered (crest_rules file ++ (rule₀ asked_out_of_range (ltb r (count_of (record_bytes file))) ∷ []))

-- a position, a plane point, a line place, a stake-out and a sighting's move by value
any_question : {A : Type 0} {refused : Refusal → A} {paper_of : A → PaperAnswer} {q : Question A} → Tells refused paper_of q → (before : List Rule) (why : Refusal) → answer_after before q ≡ refused why → Numbered why
any_question {q = q} tells before why e = refused_numbered (before ++ q.order) why ((told_exactly tells before why).0 e)

pub any_position : (c : Crest) (s : ℤ) (why : Refusal) → placed c s ≡ PlacedRefused why → Numbered why
any_position c s = any_question (station_tells s c.elements) c.rules

pub any_point : (c : Crest) (p : Point) (why : Refusal) → located c p ≡ LocatedRefused why → Numbered why
any_point c p = any_question (point_tells p c.elements) c.rules

pub any_place : (c : Crest) (s w : ℤ) (why : Refusal) → inverse c s w ≡ InverseRefused why → Numbered why
any_place c s w = any_question (place_tells s w c.elements) c.rules

pub any_stake_out : (own target : Point) (c s : ℤ) (why : Refusal) → stake_out own target c s ≡ MoveRefused why → Numbered why
any_stake_out own target c s = any_question (move_tells own target c s) []

pub any_sighted_move : (k : Sighting) (target : Point) (why : Refusal) → sighted_move k target ≡ MoveRefused why → Numbered why
any_sighted_move k target = any_question (sighted_move_tells k target) []

-- ---- "Every entry checks the alignment it is given."

-- what refuses a crest refuses every question about it, with the same number and place
module _ (c : Crest) (why : Refusal) (refused : check_of c ≡ Refused why) where
  pub refused_crest_position : (s : ℤ) → placed c s ≡ PlacedRefused why
  refused_crest_position s = told_refused (station_tells s c.elements) c.rules refused

  pub refused_crest_point : (p : Point) → located c p ≡ LocatedRefused why
  refused_crest_point p = told_refused (point_tells p c.elements) c.rules refused

  pub refused_crest_place : (s w : ℤ) → inverse c s w ≡ InverseRefused why
  refused_crest_place s w = told_refused (place_tells s w c.elements) c.rules refused

  pub refused_crest_reading : (r : Reading) → answer_to c r ≡ AnswerRefused why
  refused_crest_reading r = told_refused (reading_tells r c.elements) c.rules refused

  pub refused_crest_sighting : (k : Sighting) → sighted_to c k ≡ AnswerRefused why
  refused_crest_sighting k = told_refused (sighting_tells k c.elements) c.rules refused

pub refused_file_record : (file : List ℕ) (why : Refusal) → check_of (file_crest file) ≡ Refused why → (r : ℕ) → reader_outcome file r ≡ Refused why
unfolding reader_outcome
refused_file_record file why e r = refused_before (crest_rules file) _ e

-- ---- what a reading or a sighting came to, whatever question and crest it was

-- of a file
pub file_came : (file : List ℕ) (r : Reading) → Came (answer_to (file_crest file) r)
file_came file r = reading (file_crest file) (file_sound file) r

pub file_sighted : (file : List ℕ) (k : Sighting) → Came (sighted_to (file_crest file) k)
file_sighted file k = sighting (file_crest file) (file_sound file) k

-- every observation is a reading or a sighting
pub observation_came : (c : Crest) → SoundCrest c → (o : Observation) → Came (observed_to c o)
unfolding observed_question
observation_came c sound (Read r) = reading c sound r
observation_came c sound (Sighted k) = sighting c sound k

-- its refusal has a number of the table
pub came_numbered : {a : ReadingAnswer} → Came a → (why : Refusal) → a ≡ AnswerRefused why → Numbered why
came_numbered (reading c sound r) why e = refuses_numbered why.number (any_reading c sound r why e)
came_numbered (sighting c sound k) why e = refuses_numbered why.number (any_sighting c sound k why e)

-- that is no run's own
pub came_as_read : {a : ReadingAnswer} → Came a → AsRead a
came_as_read (reading c sound r) = any_reading c sound r
came_as_read (sighting c sound k) = any_sighting c sound k

-- and it fits the run record
pub came_storable : {a : ReadingAnswer} → Came a → Storable (shown_of a)
unfolding observed_question
came_storable (reading c sound r) = answer_storable c sound (Read r)
came_storable (sighting c sound k) = answer_storable c sound (Sighted k)

-- ---- "any order of calls": what each call returns and leaves, on any bytes

-- "A reading is counted unless its run's bytes get 18, or answered + refused is already 65,535 or more; then it is refused with 16. Either changes nothing."
pub data ReadingEnds (a : ReadingAnswer) (run : List ℕ) : Type 0 where
  no_run : length run ≢ 24 → reading_call a run ≡ (18, run) → ReadingEnds a run
  run_full_lem : length run ≡ 24 → is_full (run_at run) ≡ true → reading_call a run ≡ (16, run) → ReadingEnds a run
  counts : length run ≡ 24 → is_full (run_at run) ≡ false → reading_call a run ≡ (code (paper_of_reading 0 a), run_bytes (counted (shown_of a) (run_at run)) run) → ReadingEnds a run

pub any_reading_call : (a : ReadingAnswer) (run : List ℕ) → ReadingEnds a run
any_reading_call a run = go (ℕ_discrete (length run) 24) (is_full (run_at run)) refl
  where
    go : Dec (length run ≡ 24) → (b : Bool) → is_full (run_at run) ≡ b → ReadingEnds a run
    go (no h) b e = no_run h (reading_18 a run h)
    go (yes h) true e = run_full_lem h e (reading_16 a run h e)
    go (yes h) false e = counts h e (reading_counted a run h e)

-- "Acknowledging zeroes only the first number and reading.", of a run's bytes; others get 18
abbrev pub AcknowledgeEnds : List ℕ → Type 0
AcknowledgeEnds run = ((length run ≢ 24) × (acknowledge_call run ≡ (18, run))) ⊎ ((length run ≡ 24) × (acknowledge_call run ≡ (0, run_bytes (acknowledged (run_at run)) run)))

pub any_acknowledge_call : (run : List ℕ) → AcknowledgeEnds run
any_acknowledge_call run = go (ℕ_discrete (length run) 24)
  where
    go : Dec (length run ≡ 24) → AcknowledgeEnds run
    go (yes h) = inr (h, acknowledge_0 run h)
    go (no h) = inl (h, acknowledge_18 run h)

-- ---- "end in an answer or in a numbered refusal from the table": "A C call returns the refusal number plus 256 times its place, or 0"

abbrev pub Returned : ℕ → Type 0
Returned n = (n ≡ 0) ⊎ ((why : Refusal) × Numbered why × (n ≡ why.number + 256 * why.place))

returned : (rs : List Rule) → Returned (code (paper_of_outcome (verdict rs)))
unfolding code paper_of_outcome
returned rs = go (verdict rs) (refused_numbered rs)
  where
    go : (o : Outcome) → ((why : Refusal) → o ≡ Refused why → Numbered why) → Returned (code (paper_of_outcome o))
    go Done numbered = inl refl
    go (Refused why) numbered = inr (why, numbered why refl, refl)

-- of a question with the rules before its own
paper_code : (o : Outcome) (values : List ℤ) → code (paper_if o values) ≡ code (paper_of_outcome o)
unfolding code paper_if paper_of_outcome
paper_code Done values = refl
paper_code (Refused why) values = refl

question_code : {A : Type 0} {refused : Refusal → A} {paper_of : A → PaperAnswer} {q : Question A} → Tells refused paper_of q → (before : List Rule) → code (paper_of (answer_after before q)) ≡ code (paper_of_outcome (verdict (before ++ q.order)))
unfolding paper_after
question_code {q = q} tells before = ap code (told_paper tells before) ∙ paper_code (verdict (before ++ q.order)) q.values

-- of a question whose answer is a move
abbrev pub call_rules : Question Move → List ℕ → List Rule
call_rules q room = rule₀ wrong_room (eqb (length room) move_size) ∷ q.order

pub move_code : {q : Question Move} → Tells MoveRefused paper_of_move q → (room : List ℕ) → (move_call q room).0 ≡ code (paper_of_outcome (verdict (call_rules q room)))
unfolding move_call
move_code tells room = question_code tells (rule₀ wrong_room (eqb (length room) move_size) ∷ [])

abbrev pub stake_out_rules : Point → Point → ℤ → ℤ → List ℕ → List Rule
stake_out_rules own target c s room = rule₀ wrong_room (eqb (length room) move_size) ∷ move_rules own target c s

pub stake_out_code : (own target : Point) (c s : ℤ) (room : List ℕ) → (stake_out_call own target c s room).0 ≡ code (paper_of_outcome (verdict (stake_out_rules own target c s room)))
unfolding stake_out_call move_question
stake_out_code own target c s room = move_code (move_tells own target c s) room

pub sighting_stake_out_code : (k : Sighting) (target : Point) (room : List ℕ) → (sighting_stake_out_call k target room).0 ≡ code (paper_of_outcome (verdict (call_rules (sighted_move_question k target) room)))
unfolding sighting_stake_out_call
sighting_stake_out_code k target room = move_code (sighted_move_tells k target) room

pub any_check_call : (c : Crest) → Returned (check_call c)
unfolding check_call
any_check_call c = returned c.rules

pub any_write_call : (records room : List ℕ) → Returned (write_call records room).0
unfolding write_call writer_outcome
any_write_call records room = returned (writer_rules records (length room))

pub any_stake_out_call : (own target : Point) (c s : ℤ) (room : List ℕ) → Returned (stake_out_call own target c s room).0
any_stake_out_call own target c s room = subst Returned (sym (stake_out_code own target c s room)) (returned (stake_out_rules own target c s room))

pub any_sighting_stake_out_call : (k : Sighting) (target : Point) (room : List ℕ) → Returned (sighting_stake_out_call k target room).0
any_sighting_stake_out_call k target room = subst Returned (sym (sighting_stake_out_code k target room)) (returned (call_rules (sighted_move_question k target) room))

-- the number of a refusal without a place
number_returned : (why : Reason) → Returned (number why)
unfolding refusal
number_returned why = inr (refusal why 0, reason_numbered why, sym (add-zero (number why)))

answer_returned : (a : ReadingAnswer) → ((why : Refusal) → a ≡ AnswerRefused why → Numbered why) → Returned (code (paper_of_reading 0 a))
unfolding code paper_of_reading
answer_returned (AnswerPoint station offset residual visits) h = inl refl
answer_returned (AnswerPlace x y) h = inl refl
answer_returned (AnswerRefused why) h = inr (why, h why refl, refl)

-- of any bytes lent as a run
pub any_reading_call_returns : {a : ReadingAnswer} → Came a → (run : List ℕ) → Returned (reading_call a run).0
unfolding number
any_reading_call_returns {a} came run = go (any_reading_call a run)
  where
    go : ReadingEnds a run → Returned (reading_call a run).0
    go (no_run h e) = rw e (number_returned wrong_room)
    go (run_full_lem h f e) = rw e (number_returned run_full)
    go (counts h f e) = rw e (answer_returned a (came_numbered came))

pub any_acknowledge_call_returns : (run : List ℕ) → Returned (acknowledge_call run).0
unfolding number
any_acknowledge_call_returns run = go (any_acknowledge_call run)
  where
    go : AcknowledgeEnds run → Returned (acknowledge_call run).0
    go (inl (h, e)) = rw e (number_returned wrong_room)
    go (inr (h, e)) = rw e (inl refl)

-- ---- and 0 exactly where nothing is refused

returns_0 : (rs : List Rule) → (code (paper_of_outcome (verdict rs)) ≡ 0) ↔ (verdict rs ≡ Done)
unfolding code paper_of_outcome
returns_0 rs = (go (verdict rs) (λ why e. (refused_numbered rs why e).0), λ e. ap (λ (o : Outcome). code (paper_of_outcome o)) e)
  where
    go : (o : Outcome) → ((why : Refusal) → o ≡ Refused why → 1 ≤ why.number) → code (paper_of_outcome o) ≡ 0 → o ≡ Done
    go Done least e = refl
    go (Refused why) least e = absurd (omega (arith, least why refl, e))

pub check_returns_0 : (c : Crest) → (check_call c ≡ 0) ↔ (check_of c ≡ Done)
unfolding check_call
check_returns_0 c = returns_0 c.rules

pub write_returns_0 : (records room : List ℕ) → ((write_call records room).0 ≡ 0) ↔ (writer_outcome records (length room) ≡ Done)
unfolding write_call writer_outcome
write_returns_0 records room = returns_0 (writer_rules records (length room))

-- where 8 bytes are lent and the move by value is not refused
pub stake_out_returns_0 : (own target : Point) (c s : ℤ) (room : List ℕ) →
    ((stake_out_call own target c s room).0 ≡ 0) ↔ ((length room ≡ 8) × (stake_out own target c s ≡ By (forward_of own target c s) (left_of own target c s)))
unfolding move_question
stake_out_returns_0 own target c s room =
    let rules = stake_out_rules own target c s room in
    let answered = told_answered (move_tells own target c s) [] in (
      (λ e. let h = done→all rules ((returns_0 rules).0 (sym (stake_out_code own target c s room) ∙ e)) in (eqb-true (length room) 8 (first_holds h), answered.1 (all→done (rest_hold h)))),
      (λ h. stake_out_code own target c s room ∙ (returns_0 rules).1 (all→done (more (eq-eqb (length room) 8 h.0) (done→all (move_rules own target c s) (answered.0 h.1))))),
    )

pub sighting_stake_out_returns_0 : (k : Sighting) (target : Point) (room : List ℕ) →
    ((sighting_stake_out_call k target room).0 ≡ 0) ↔ ((length room ≡ 8) × (sighted_move k target ≡ By (forward_of (sighted_of k) target (neg_ℤ (turned_of k).x) (neg_ℤ (turned_of k).y)) (left_of (sighted_of k) target (neg_ℤ (turned_of k).x) (neg_ℤ (turned_of k).y))))
unfolding sighted_move_question
sighting_stake_out_returns_0 k target room =
    let rules = call_rules (sighted_move_question k target) room in
    let answered = told_answered (sighted_move_tells k target) [] in (
      (λ e. let h = done→all rules ((returns_0 rules).0 (sym (sighting_stake_out_code k target room) ∙ e)) in (eqb-true (length room) 8 (first_holds h), answered.1 (all→done (rest_hold h)))),
      (λ h. sighting_stake_out_code k target room ∙ (returns_0 rules).1 (all→done (more (eq-eqb (length room) 8 h.0) (done→all (sighted_move_question k target).order (answered.0 h.1))))),
    )

-- a reading that is refused does not return 0
refused_reading_returns : {a : ReadingAnswer} → Came a → (why : Refusal) → a ≡ AnswerRefused why → code (paper_of_reading 0 a) ≡ 0 → ⊥
unfolding code paper_of_reading
refused_reading_returns came why e z = omega (arith, (came_numbered came why e).0, sym (ap (λ (x : ReadingAnswer). code (paper_of_reading 0 x)) e) ∙ z)

-- where 24 bytes are lent, the run is not full and the reading is answered
pub reading_returns_0 : {a : ReadingAnswer} → Came a → (run : List ℕ) →
    ((reading_call a run).0 ≡ 0) ↔ ((length run ≡ 24) × (is_full (run_at run) ≡ false) × ((why : Refusal) → a ≢ AnswerRefused why))
unfolding code paper_of_reading
reading_returns_0 {a} came run = (
  go (any_reading_call a run),
  λ x. ap (λ o. o.0) (reading_counted a run x.0 x.1) ∙ answered a x.2,
)
  where
    answered : (a : ReadingAnswer) → ((why : Refusal) → a ≢ AnswerRefused why) → code (paper_of_reading 0 a) ≡ 0
    answered (AnswerPoint station offset residual visits) h = refl
    answered (AnswerPlace x y) h = refl
    answered (AnswerRefused why) h = absurd (h why refl)

    go : ReadingEnds a run → (reading_call a run).0 ≡ 0 → (length run ≡ 24) × (is_full (run_at run) ≡ false) × ((why : Refusal) → a ≢ AnswerRefused why)
    go (no_run h e) z = absurd (omega (arith, ap (λ o. o.0) e))
    go (run_full_lem h f e) z = absurd (omega (arith, ap (λ o. o.0) e))
    go (counts h f e) z = (h, f, λ why x. refused_reading_returns came why x (sym (ap (λ o. o.0) e) ∙ z))

pub acknowledge_returns_0 : (run : List ℕ) → ((acknowledge_call run).0 ≡ 0) ↔ (length run ≡ 24)
acknowledge_returns_0 run = (go (any_acknowledge_call run), λ h. ap (λ o. o.0) (acknowledge_0 run h))
  where
    go : AcknowledgeEnds run → (acknowledge_call run).0 ≡ 0 → length run ≡ 24
    go (inl (h, e)) z = absurd (omega (arith, ap (λ o. o.0) e))
    go (inr (h, e)) z = h

-- ---- "A refusal carries no station, offset or point"

-- "all other numbers zero": of each answer by value
pub refused_values : (why : Refusal) → ((paper_of_placed (PlacedRefused why)).values ≡ replicate 4 (pos 0)) × ((paper_of_located (LocatedRefused why)).values ≡ replicate 4 (pos 0))
    × ((paper_of_inverse (InverseRefused why)).values ≡ replicate 2 (pos 0)) × ((paper_of_move (MoveRefused why)).values ≡ replicate 2 (pos 0))
unfolding paper_of_placed paper_of_located paper_of_inverse paper_of_move
refused_values why = (refl, refl, refl, refl)

-- of a reading: as many zeros as its question has values
pub refused_reading_values : (r : Reading) (why : Refusal) → (paper_of_reading (value_count r) (AnswerRefused why)).values ≡ replicate (value_count r) (pos 0)
unfolding paper_of_reading
refused_reading_values r why = refl

-- of a sighting: four, as of its point
pub refused_sighting_values : (k : Sighting) (why : Refusal) → (paper_of_reading (observed_count (Sighted k)) (AnswerRefused why)).values ≡ replicate 4 (pos 0)
unfolding paper_of_reading observed_count
refused_sighting_values k why = refl

-- "It goes with a plane point's answer; else both are 0.0."
pub refused_display : (why : Refusal) → display_of (AnswerRefused why) ≡ record { station = zero_float; offset = zero_float }
unfolding display_of
refused_display why = refl

-- "a refusal hands back an empty part"
pub refused_part : (file : List ℕ) (r : ℕ) (why : Refusal) → reader_outcome file r ≡ Refused why → reader_part file r ≡ []
unfolding reader_part reader_span span_if
refused_part file r why e = rw e

pub refused_no_numbers : (a : ReadingAnswer) → ((shown_of a).number ≡ 0 → ⊥) → Zeros (shown_of a)
refused_no_numbers = refusal_shows_zeros

-- ---- "and lent room other than the run record stays as it came"

pub refused_write_unchanged : (records room : List ℕ) → ((write_call records room).0 ≡ 0 → ⊥) → (write_call records room).1 ≡ room
unfolding write_call written room_after code paper_of_outcome
refused_write_unchanged records room = go (writer_outcome records (length room))
  where
    go : (o : Outcome) → (code (paper_of_outcome o) ≡ 0 → ⊥) → room_after o records room ≡ room
    go Done h = absurd (h refl)
    go (Refused why) h = refl

refused_move_unchanged : (q : Question Move) (room : List ℕ) → ((move_call q room).0 ≡ 0 → ⊥) → (move_call q room).1 ≡ room
unfolding move_call move_bytes code paper_of_move
refused_move_unchanged q room = go (answer_after (rule₀ wrong_room (eqb (length room) move_size) ∷ []) q)
  where
    go : (m : Move) → (code (paper_of_move m) ≡ 0 → ⊥) → move_bytes m room ≡ room
    go (By forward left) h = absurd (h refl)
    go (MoveRefused why) h = refl

pub refused_stake_out_unchanged : (own target : Point) (c s : ℤ) (room : List ℕ) → ((stake_out_call own target c s room).0 ≡ 0 → ⊥) → (stake_out_call own target c s room).1 ≡ room
unfolding stake_out_call
refused_stake_out_unchanged own target c s room = refused_move_unchanged (move_question own target c s) room

pub refused_sighting_stake_out_unchanged : (k : Sighting) (target : Point) (room : List ℕ) → ((sighting_stake_out_call k target room).0 ≡ 0 → ⊥) → (sighting_stake_out_call k target room).1 ≡ room
unfolding sighting_stake_out_call
refused_sighting_stake_out_unchanged k target room = refused_move_unchanged (sighted_move_question k target) room

-- of a run, what is not counted changes nothing
pub not_counted : {a : ReadingAnswer} → Came a → (run : List ℕ) → ((reading_call a run).0 ≡ 16) ⊎ ((reading_call a run).0 ≡ 18) → (reading_call a run).1 ≡ run
not_counted {a} came run = not_counted_unchanged a run (came_as_read came)

-- ---- "The run record shows the outcome of the latest counted reading only, and keeps the first counted refusal since the last acknowledgement."

every_fits : {cs : List Call} → AllCame cs → ReadingsFit cs
every_fits none = tt
every_fits (asked came rest) = (came_storable came, every_fits rest)
every_fits (acknowledged_next rest) = (tt, every_fits rest)

-- after every history of calls the bytes of a run that began fresh show what `demanded` says
pub fresh_bytes_show_demanded : {cs : List Call} → AllCame cs → run_at (bytes_after_calls cs fresh_bytes) ≡ demanded cs
fresh_bytes_show_demanded {cs} came = bytes_show_demanded cs (every_fits came)

-- so of readings and sightings on crest files, whatever their bytes, and acknowledgements, in any order
pub data FileCall : Type 0 where
  read_file : List ℕ → Reading → FileCall
  sight_file : List ℕ → Sighting → FileCall
  acknowledge_run : FileCall

abbrev pub calls_of : List FileCall → List Call
calls_of [] = []
calls_of (read_file file r ∷ cs) = read (answer_to (file_crest file) r) ∷ calls_of cs
calls_of (sight_file file k ∷ cs) = read (sighted_to (file_crest file) k) ∷ calls_of cs
calls_of (acknowledge_run ∷ cs) = acknowledge ∷ calls_of cs

pub files_came : (cs : List FileCall) → AllCame (calls_of cs)
files_came [] = none
files_came (read_file file r ∷ cs) = asked (file_came file r) (files_came cs)
files_came (sight_file file k ∷ cs) = asked (file_sighted file k) (files_came cs)
files_came (acknowledge_run ∷ cs) = acknowledged_next (files_came cs)

pub file_bytes_show_demanded : (cs : List FileCall) → run_at (bytes_after_calls (calls_of cs) fresh_bytes) ≡ demanded (calls_of cs)
file_bytes_show_demanded cs = fresh_bytes_show_demanded (files_came cs)

-- and its field of zero stays zero
pub fresh_zero_stays : (cs : List Call) → (byte_at (bytes_after_calls cs fresh_bytes) 10 ≡ 0) × (byte_at (bytes_after_calls cs fresh_bytes) 11 ≡ 0)
fresh_zero_stays cs = let k = fresh_bytes_keep cs in (k.1, k.2)

-- "other bytes are taken as the state they spell, by the same rules": after every history of calls any 24 bytes hold the run that the calls make by value of the run
-- that they spelled at first
module _ {cs : List Call} (came : AllCame cs) (run : List ℕ) (long : length run ≡ 24) (b : AllBytes run) where
  pub spelled_bytes_go_on : bytes_after_calls cs run ≡ run_bytes (after_calls cs (run_at run)) run
  spelled_bytes_go_on = (bytes_follow_run cs run (bytes_spelled run long b) (every_fits came)).written

  pub spelled_run_goes_on : run_at (bytes_after_calls cs run) ≡ after_calls cs (run_at run)
  spelled_run_goes_on = bytes_show_run cs run (bytes_spelled run long b) (every_fits came)

-- what a reading shows in the run where its call returns a refusal: the number, and zeros
refusal_shown : (a : ReadingAnswer) → ((why : Refusal) → a ≡ AnswerRefused why → Numbered why) → code (paper_of_reading 0 a) ≢ 0 → ((shown_of a).number ≡ code (paper_of_reading 0 a) % 256) × Zeros (shown_of a)
unfolding code paper_of_reading shown_of
refusal_shown (AnswerPoint station offset residual visits) numbered h = absurd (h refl)
refusal_shown (AnswerPlace x y) numbered h = absurd (h refl)
refusal_shown (AnswerRefused why) numbered h = let n = numbered why refl in (omega (arith, n), record { one = refl; two = refl; three = refl })

-- the latest outcome of a run is a refusal, by what its call returned, and zeros
abbrev pub ShowsRefusal : ℕ → Run → Type 0
ShowsRefusal returned run = (run.latest ≡ returned % 256) × (run.one ≡ pos 0) × (run.two ≡ pos 0) × (run.three ≡ pos 0)

-- So a refusal that is counted leaves its number in the run's 24 bytes and zeros for station, offset and residual, whatever stood there before: a call that returns neither
-- 0, 16 nor 18.
pub counted_refusal_shows_zeros : {a : ReadingAnswer} → Came a → (run : List ℕ) → AllBytes run → (reading_call a run).0 ≢ 0 → (reading_call a run).0 ≢ 16 → (reading_call a run).0 ≢ 18 →
    ShowsRefusal (reading_call a run).0 (run_at (reading_call a run).1)
unfolding bytes_after_calls bytes_after_call after_calls after_call counted
counted_refusal_shows_zeros {a} came run b not-0 not_16 not-18 = go (any_reading_call a run)
  where
    go : ReadingEnds a run → ShowsRefusal (reading_call a run).0 (run_at (reading_call a run).1)
    go (no_run h e) = absurd (not-18 (ap (λ o. o.0) e))
    go (run_full_lem h f e) = absurd (not_16 (ap (λ o. o.0) e))
    go (counts h f e) =
        let returned = ap (λ o. o.0) e in
        let shown = refusal_shown a (came_numbered came) (λ z. not-0 (returned ∙ z)) in
        let after = spelled_run_goes_on (asked came none) run h b ∙ ap (λ n. n.run) (noted_counted a (run_at run) f) in
        subst (ShowsRefusal (reading_call a run).0) (sym after) (shown.0 ∙ ap (λ n. n % 256) (sym returned), shown.1.one, shown.1.two, shown.1.three)

-- "(the zero is neither read nor changed)": bytes 10 and 11 of any bytes are as they came
pub zero_stays : (cs : List Call) (run : List ℕ) → (byte_at (bytes_after_calls cs run) 10 ≡ byte_at run 10) × (byte_at (bytes_after_calls cs run) 11 ≡ byte_at run 11)
zero_stays cs run = let k = history_keeps cs run in (k.tenth, k.eleventh)

-- The same where the run lies at the front of a longer room, of which each call is lent any number of bytes: those lent other than 24 leave no trace.
module _ (cs : List Lending) (rest : List ℕ) (within : LentWithin (length (fresh_bytes ++ rest)) cs) where
  pub fresh_room_bytes : (take 24 (room_after_all cs (fresh_bytes ++ rest)) ≡ bytes_after_calls (on_run cs) fresh_bytes) × (drop 24 (room_after_all cs (fresh_bytes ++ rest)) ≡ rest)
  fresh_room_bytes =
      let lent = lent_history cs (fresh_bytes ++ rest) (omega (arith, length-append fresh_bytes rest)) within in
      (lent.0 ∙ ap (bytes_after_calls (on_run cs)) (take-append_seam fresh_bytes rest), lent.1 ∙ drop-append_seam fresh_bytes rest)

  pub fresh_room_shows_demanded : AllCame (on_run cs) → run_at (take 24 (room_after_all cs (fresh_bytes ++ rest))) ≡ demanded (on_run cs)
  fresh_room_shows_demanded came = ap run_at fresh_room_bytes.0 ∙ fresh_bytes_show_demanded came
