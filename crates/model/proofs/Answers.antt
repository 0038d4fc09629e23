-- Where the rules before those of a question hold, they decide nothing; where they refuse, theirs is the answer. So on an accepted crest its own rules decide nothing, and a
-- refused crest refuses every question. And the paper's number, place and values of an answer are those of its order.
use Prim.Native.Nat.{ℕ}
use mathlib.Core.List.{List, [], ◌∷◌, ◌++◌, append_assoc}
use mathlib.Core.Logic.{◌↔◌}
use mathlib.Core.Path.{◌≡◌, refl, sym, ◌∙◌, ap}
use lib.ListN.{length, length-replicate}
use lib.IntN.{ℤ, pos}
use lib.Ieee.{Float}
use Rattle.integers.proofs.Order.{clash}
use Rattle.model.specs.declared.Element.{Element}
use Rattle.model.specs.declared.Point.{Point}
use Rattle.model.specs.declared.Refusal.{Refusal}
use Rattle.model.specs.declared.Outcome.{Outcome}
use Rattle.model.specs.declared.Outcome.TheVariants.{Done, Refused}
use Rattle.model.specs.declared.Placed.TheVariants.{Refused as PlacedRefused}
use Rattle.model.specs.declared.Located.TheVariants.{Refused as LocatedRefused}
use Rattle.model.specs.declared.Inverse.TheVariants.{Refused as InverseRefused}
use Rattle.model.specs.declared.Move.TheVariants.{Refused as MoveRefused}
use Rattle.model.specs.declared.Reading.{Reading}
use Rattle.model.specs.declared.Reading.TheVariants.{PlanePoint, LinePlace}
use Rattle.model.specs.declared.Sighting.{Sighting}
use Rattle.model.specs.declared.Observation.{Observation}
use Rattle.model.specs.declared.Observation.TheVariants.{Read, Sighted}
use Rattle.model.specs.declared.ReadingAnswer.{ReadingAnswer}
use Rattle.model.specs.declared.ReadingAnswer.TheVariants.{Refused as AnswerRefused}
use Rattle.model.specs.declared.Run.{Run}
use Rattle.model.specs.declared.Noted.{Noted}
use Rattle.model.specs.Refusals.{Rule, verdict}
use Rattle.model.specs.Crest.{Crest}
use Rattle.model.specs.Answers.{PaperAnswer, answered_with, refused_with, paper_if, paper_of_outcome, Question, answer_if, answer_after, answer_of, paper_after, asked_paper, station_rules, station_question, paper_of_placed, point_rules, point_question, located_on, paper_of_located, line_rules, place_question, paper_of_inverse, move_rules, move_question, paper_of_move}
use Rattle.model.specs.Readings.{whole_of, value_of, number_rules, from_located, from_inverse, put_after, reading_question, value_count, paper_of_reading}
use Rattle.model.specs.Sightings.{sight_rules, sighted_of, sight_question, sighting_question, sighted_on, observed_question, observed_to, observed_count, sighted_move_rules, sighted_move_question}
use Rattle.model.specs.Run.{full_rules, noted_if, noted, noted_paper_if, noted_paper}
use Rattle.model.proofs.Verdict.{verdict_after, refused_before}

-- ---- a question, with the rules before its own

module _ {A : Type 0} (q : Question A) (before : List Rule) where
  pub rules_hold : verdict before ≡ Done → answer_after before q ≡ answer_of q
  unfolding answer_after
  rules_hold e = ap (λ o. answer_if o q) (verdict_after before q.order e)

  rules_refuse : {why : Refusal} → verdict before ≡ Refused why → answer_after before q ≡ q.refused why
  unfolding answer_after answer_if
  rules_refuse e = ap (λ o. answer_if o q) (refused_before before q.order e)

-- an outcome has no values
outcome_paper : (o : Outcome) → paper_of_outcome o ≡ paper_if o []
unfolding paper_of_outcome paper_if
outcome_paper Done = refl
outcome_paper (Refused r) = refl

pub told_outcome : {o : Outcome} (is : Outcome) → o ≡ is → (o ≡ is) × (paper_of_outcome o ≡ paper_if is [])
told_outcome is e = (e, ap paper_of_outcome e ∙ outcome_paper is)

-- ---- what its answers tell

-- rules without a place: "else 0"
pub data Bare : List Rule → Type 0 where
  none : Bare []
  next : {r : Rule} {rs : List Rule} → r.place ≡ 0 → Bare rs → Bare (r ∷ rs)

-- A question that gives its refusals as `refused` does, without a place: an answer's values are the paper's, a refusal has as many zeros, and no answer is taken for a refusal,
-- nor one refusal for another.
pub record Tells {A : Type 0} (refused : Refusal → A) (paper_of : A → PaperAnswer) (q : Question A) : Type 0 where
  pub refuses : (why : Refusal) → q.refused why ≡ refused why
  pub values : paper_of q.answer ≡ answered_with q.values
  pub zeros : (why : Refusal) → paper_of (refused why) ≡ refused_with why (length q.values)
  pub apart : (why : Refusal) → q.answer ≡ refused why → ⊥
  pub one : {v w : Refusal} → refused v ≡ refused w → v ≡ w
  pub bare : Bare q.order

module _ {A : Type 0} {refused : Refusal → A} {paper_of : A → PaperAnswer} {q : Question A} (tells : Tells refused paper_of q) where
  pub told_refused : (before : List Rule) {why : Refusal} → verdict before ≡ Refused why → answer_after before q ≡ refused why
  told_refused before {why} e = rules_refuse q before e ∙ tells.refuses why

  paper_by : (o : Outcome) → paper_of (answer_if o q) ≡ paper_if o q.values
  unfolding answer_if paper_if
  paper_by Done = tells.values
  paper_by (Refused why) = ap paper_of (tells.refuses why) ∙ tells.zeros why

  pub told_paper : (before : List Rule) → paper_of (answer_after before q) ≡ paper_after before q
  unfolding answer_after paper_after
  told_paper before = paper_by (verdict (before ++ q.order))

  -- an answer with the paper's of it
  pub told : (before : List Rule) {a : A} → a ≡ answer_after before q → (a ≡ answer_after before q) × (paper_of a ≡ paper_after before q)
  told before e = (e, ap paper_of e ∙ told_paper before)

  -- refused exactly when the order's outcome is, and answered else
  refused_by_lem : (o : Outcome) (why : Refusal) → (answer_if o q ≡ refused why) ↔ (o ≡ Refused why)
  unfolding answer_if
  refused_by_lem Done why = ((λ e. absurd (tells.apart why e)), (λ e. clash cc))
  refused_by_lem (Refused w) why = ((λ e. ap Refused (tells.one (sym (tells.refuses w) ∙ e))), (λ e. let s : w ≡ why = cc in ap q.refused s ∙ tells.refuses why))

  pub told_exactly : (before : List Rule) (why : Refusal) → (answer_after before q ≡ refused why) ↔ (verdict (before ++ q.order) ≡ Refused why)
  unfolding answer_after
  told_exactly before why = refused_by_lem (verdict (before ++ q.order)) why

  answered_by : (o : Outcome) → (answer_if o q ≡ q.answer) ↔ (o ≡ Done)
  unfolding answer_if
  answered_by Done = ((λ e. refl), (λ e. refl))
  answered_by (Refused w) = ((λ e. absurd (tells.apart w (sym e ∙ tells.refuses w))), (λ e. clash cc))

  pub told_answered : (before : List Rule) → (answer_after before q ≡ q.answer) ↔ (verdict (before ++ q.order) ≡ Done)
  unfolding answer_after
  told_answered before = answered_by (verdict (before ++ q.order))

  -- what the rules before do not refuse is given exactly when they hold and the question gives it
  pub told_later : (before : List Rule) {a : A} → ((why : Refusal) → verdict before ≡ Refused why → a ≡ refused why → ⊥) → (answer_after before q ≡ a) ↔ ((verdict before ≡ Done) × (answer_of q ≡ a))
  told_later before {a} later = ((λ e. go e (verdict before) refl), (λ x. rules_hold q before x.0 ∙ x.1))
    where
      go : answer_after before q ≡ a → (o : Outcome) → verdict before ≡ o → (verdict before ≡ Done) × (answer_of q ≡ a)
      go e Done k = (k, sym (rules_hold q before k) ∙ e)
      go e (Refused why) k = absurd (later why k (sym e ∙ told_refused before k))

  -- so an answer comes from rules that hold and from the question
  pub told_answer : (before : List Rule) {a : A} → ((why : Refusal) → a ≡ refused why → ⊥) → answer_after before q ≡ a → (verdict before ≡ Done) × (answer_of q ≡ a)
  told_answer before apart e = (told_later before (λ why k. apart why)).0 e

-- ---- each question

pub station_tells : (s : ℤ) (es : List Element) → Tells PlacedRefused paper_of_placed (station_question s es)
unfolding station_rules station_question paper_of_placed
station_tells s es =
    record { refuses = λ why. refl; values = refl; zeros = λ why. refl; apart = λ why e. clash cc; one = λ e. cc; bare = next refl none }

pub point_tells : (p : Point) (es : List Element) → Tells LocatedRefused paper_of_located (point_question p es)
unfolding point_rules point_question paper_of_located
point_tells p es =
    record { refuses = λ why. refl; values = refl; zeros = λ why. refl; apart = λ why e. clash cc; one = λ e. cc; bare = next refl (next refl (next refl (next refl none))) }

pub place_tells : (s w : ℤ) (es : List Element) → Tells InverseRefused paper_of_inverse (place_question s w es)
unfolding line_rules place_question paper_of_inverse
place_tells s w es =
    record { refuses = λ why. refl; values = refl; zeros = λ why. refl; apart = λ why e. clash cc; one = λ e. cc; bare = next refl (next refl none) }

pub move_tells : (own target : Point) (c s : ℤ) → Tells MoveRefused paper_of_move (move_question own target c s)
unfolding move_rules move_question paper_of_move
move_tells own target c s =
    record { refuses = λ why. refl; values = refl; zeros = λ why. refl; apart = λ why e. clash cc; one = λ e. cc; bare = next refl (next refl (next refl none)) }

pub reading_tells : (r : Reading) (es : List Element) → Tells AnswerRefused (paper_of_reading (value_count r)) (reading_question r es)
unfolding number_rules point_rules line_rules reading_question put_after point_question place_question from_located from_inverse value_count paper_of_reading
reading_tells (PlanePoint x y) es =
    record { refuses = λ why. refl; values = refl; zeros = λ why. refl; apart = λ why e. clash cc; one = λ e. cc; bare = next refl (next refl (next refl (next refl (next refl none)))) }
reading_tells (LinePlace station offset) es =
    record { refuses = λ why. refl; values = refl; zeros = λ why. refl; apart = λ why e. clash cc; one = λ e. cc; bare = next refl (next refl (next refl none)) }

-- the four rules of a sighting's own, and others
sight_bare : (k : Sighting) {rs : List Rule} → Bare rs → Bare (sight_rules k ++ rs)
unfolding sight_rules
sight_bare k rest = next refl (next refl (next refl (next refl rest)))

pub sight_tells : (k : Sighting) → Tells PlacedRefused paper_of_placed (sight_question k)
unfolding sight_rules sight_question paper_of_placed
sight_tells k =
    record { refuses = λ why. refl; values = refl; zeros = λ why. refl; apart = λ why e. clash cc; one = λ e. cc; bare = sight_bare k none }

pub sighting_tells : (k : Sighting) (es : List Element) → Tells AnswerRefused (paper_of_reading 4) (sighting_question k es)
unfolding point_rules sighting_question put_after point_question from_located paper_of_reading
sighting_tells k es =
    record { refuses = λ why. refl; values = refl; zeros = λ why. refl; apart = λ why e. clash cc; one = λ e. cc; bare = sight_bare k (next refl (next refl (next refl (next refl none)))) }

pub sighted_move_tells : (k : Sighting) (target : Point) → Tells MoveRefused paper_of_move (sighted_move_question k target)
unfolding sighted_move_rules sighted_move_question paper_of_move
sighted_move_tells k target =
    record { refuses = λ why. refl; values = refl; zeros = λ why. refl; apart = λ why e. clash cc; one = λ e. cc; bare = sight_bare k (next refl (next refl none)) }

pub observed_tells : (o : Observation) (es : List Element) → Tells AnswerRefused (paper_of_reading (observed_count o)) (observed_question o es)
unfolding observed_question observed_count
observed_tells (Read r) es = reading_tells r es
observed_tells (Sighted k) es = sighting_tells k es

-- ---- a question after rules of its own numbers: that a reading's are whole, or those of a sighting

module _ {A : Type 0} (rules : List Rule) (from : A → ReadingAnswer) (q : Question A) (refuses : (why : Refusal) → from (q.refused why) ≡ AnswerRefused why) (before : List Rule) where
  put_by : (o : Outcome) → answer_if o (put_after rules from q) ≡ from (answer_if o q)
  unfolding answer_if put_after
  put_by Done = refl
  put_by (Refused why) = sym (refuses why)

  pub put_after_lem : answer_after before (put_after rules from q) ≡ from (answer_after (before ++ rules) q)
  unfolding answer_after put_after
  put_after_lem = put_by (verdict (before ++ (rules ++ q.order))) ∙ ap (λ rs. from (answer_if (verdict rs) q)) (sym (append_assoc before rules q.order))

module _ (before : List Rule) (a b : Float) (es : List Element) where
  pub plane_asked : answer_after before (reading_question (PlanePoint a b) es) ≡ from_located (answer_after (before ++ number_rules a b) (point_question (record { x = value_of (whole_of a); y = value_of (whole_of b) }) es))
  unfolding reading_question point_question from_located
  plane_asked = put_after_lem (number_rules a b) from_located _ (λ why. refl) before

  pub line_asked : answer_after before (reading_question (LinePlace a b) es) ≡ from_inverse (answer_after (before ++ number_rules a b) (place_question (value_of (whole_of a)) (value_of (whole_of b)) es))
  unfolding reading_question place_question from_inverse
  line_asked = put_after_lem (number_rules a b) from_inverse _ (λ why. refl) before

pub sighting_asked : (before : List Rule) (k : Sighting) (es : List Element) → answer_after before (sighting_question k es) ≡ from_located (answer_after (before ++ sight_rules k) (point_question (sighted_of k) es))
unfolding sighting_question point_question from_located
sighting_asked before k es = put_after_lem (sight_rules k) from_located _ (λ why. refl) before

-- its own refusal, and else what its point comes to
pub sighting_refused : (es : List Element) (k : Sighting) {why : Refusal} → verdict (sight_rules k) ≡ Refused why → sighted_on es k ≡ AnswerRefused why
unfolding point_question from_located
sighting_refused es k e = sighting_asked [] k es ∙ ap from_located (told_refused (point_tells (sighted_of k) es) (sight_rules k) e)

pub sighting_located : (es : List Element) (k : Sighting) → verdict (sight_rules k) ≡ Done → sighted_on es k ≡ from_located (located_on es (sighted_of k))
sighting_located es k e = sighting_asked [] k es ∙ ap from_located (rules_hold (point_question (sighted_of k) es) (sight_rules k) e)

-- ---- a reading or a sighting on a run: 16 has as many zeros as the question has values

noted_by : (o : Outcome) (n : ℕ) (p : PaperAnswer) (a : ReadingAnswer) (run : Run) → paper_of_reading n a ≡ p → length p.values ≡ n → paper_of_reading n (noted_if o a run).answer ≡ noted_paper_if o p
unfolding paper_of_reading noted_if noted_paper_if
noted_by Done n p a run e l = e
noted_by (Refused r) n p a run e l = ap (refused_with r) (sym l)

paper_values : (o : Outcome) (values : List ℤ) → length (paper_if o values).values ≡ length values
unfolding paper_if
paper_values Done values = refl
paper_values (Refused r) values = length-replicate (length values) (pos 0)

value_count_lem : (o : Observation) (es : List Element) → length (observed_question o es).values ≡ observed_count o
unfolding observed_question reading_question sighting_question put_after point_question place_question value_count observed_count
value_count_lem (Read (PlanePoint x y)) es = refl
value_count_lem (Read (LinePlace station offset)) es = refl
value_count_lem (Sighted k) es = refl

noted_paper_lem : (c : Crest) (o : Observation) (run : Run) → paper_of_reading (observed_count o) (noted (observed_to c o) run).answer ≡ noted_paper (asked_paper (observed_question o) c) run
unfolding noted noted_paper paper_after
noted_paper_lem c o run =
    let q = observed_question o c.elements in
    noted_by (verdict (full_rules run)) (observed_count o) (asked_paper (observed_question o) c) (observed_to c o) run (told_paper (observed_tells o c.elements) c.rules)
    (paper_values (verdict (c.rules ++ q.order)) q.values ∙ value_count_lem o c.elements)

pub told_noted : (c : Crest) (o : Observation) (run : Run) {n : Noted} → n ≡ noted (observed_to c o) run →
    (n ≡ noted (observed_to c o) run) × (paper_of_reading (observed_count o) n.answer ≡ noted_paper (asked_paper (observed_question o) c) run)
told_noted c o run e = (e, ap (λ n. paper_of_reading (observed_count o) n.answer) e ∙ noted_paper_lem c o run)
