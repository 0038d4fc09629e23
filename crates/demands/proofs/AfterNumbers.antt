-- A question that is put after rules of its own numbers, on a crest of any source: a reading's, that both are whole, or a sighting's. They stand between the crest's own rules and
-- those of the question, so where they hold it comes to what the question does, and is refused as that is with every number that they do not give.
use mathlib.Core.Bool.{false}
use mathlib.Core.List.{List, ◌++◌, append_assoc}
use mathlib.Core.Logic.Iff
use mathlib.Core.Logic.{◌≢◌, ◌↔◌}
use mathlib.Core.Path.{◌≡◌, refl, sym, ◌∙◌, ap}
use Prim.Native.Nat.{ℕ}
use lib.IntN.{ℤ}
use Rattle.integers.proofs.Order.{clash}
use Rattle.model.specs.declared.Point.{Point}
use Rattle.model.specs.declared.Refusal.{Refusal}
use Rattle.model.specs.declared.Outcome.TheVariants.{Done, Refused}
use Rattle.model.specs.declared.Located.{Located}
use Rattle.model.specs.declared.Located.TheVariants.{At as LocatedAt, Refused as LocatedRefused}
use Rattle.model.specs.declared.ReadingAnswer.{ReadingAnswer}
use Rattle.model.specs.declared.ReadingAnswer.TheVariants.{PlanePoint as AnswerPoint, Refused as AnswerRefused}
use Rattle.model.specs.Refusals.{Reason, Rule, number, refusal, Gives, verdict}
use Rattle.model.specs.Crest.{Crest, check_of, is_own}
use Rattle.model.specs.Answers.{PaperAnswer, Question, answer_if, answer_after, point_question, located}
use Rattle.model.specs.Readings.{from_located, put_after}
use Rattle.model.proofs.Verdict.{done→all, all→done}
use Rattle.model.proofs.Answers.{rules_hold, Tells, told_exactly, told_answer, point_tells, put_after_lem}
use Rattle.model.proofs.AfterCrest.{held_between}
use Rattle.model.proofs.ForEach.{append_all, all_append}
use Rattle.model.proofs.Reasons.{Lacks, lacks-++, lacks_other, lacks→not_given}
use Rattle.walk_laws.proofs.Outcomes.{Answered, crest_answered}
use Rattle.demands.proofs.Places.{first_part, second_part}

-- what is answered at a station comes from the point's answer
from_answered : (l : Located) {station : ℕ} {offset residual : ℤ} {count : ℕ} → (from_located l ≡ AnswerPoint station offset residual count) ↔ (l ≡ LocatedAt station offset residual count)
unfolding from_located
from_answered (LocatedAt station offset residual count) = ((λ e. cc), (λ e. cc))
from_answered (LocatedRefused why) = ((λ e. clash cc), (λ e. clash cc))

module _ (c : Crest) (rules : List Rule) where
  both_hold : (verdict (c.rules ++ rules) ≡ Done) ↔ ((check_of c ≡ Done) × (verdict rules ≡ Done))
  both_hold = (
    (λ e. let a = append_all c.rules (done→all _ e) in (all→done a.0, all→done a.1)),
    (λ h. all→done (all_append (done→all c.rules h.0) (done→all rules h.1))),
  )

  -- where the rules of its numbers hold it comes to what the question does
  pub came_as : {A : Type 0} (from : A → ReadingAnswer) (q : Question A) → ((why : Refusal) → from (q.refused why) ≡ AnswerRefused why) → verdict rules ≡ Done → answer_after c.rules (put_after rules from q) ≡ from (answer_after c.rules q)
  unfolding answer_after
  came_as from q refuses hold =
      put_after_lem rules from q refuses c.rules
      ∙ ap (λ o. from (answer_if o q)) (ap verdict (append_assoc c.rules rules q.order) ∙ held_between c.rules rules q.order hold)

  module _ (own : Gives is_own c.rules) {A : Type 0} {refused : Refusal → A} {paper_of : A → PaperAnswer} {paper : ReadingAnswer → PaperAnswer} (from : A → ReadingAnswer) (q : Question A) (tells : Tells refused paper_of q)
      (asks : Tells AnswerRefused paper (put_after rules from q)) where
    abbrev came : ReadingAnswer
    came = answer_after c.rules (put_after rules from q)

    -- refused exactly when its order is
    pub came_refused : (w : Refusal) → (came ≡ AnswerRefused w) ↔ (verdict (c.rules ++ (rules ++ q.order)) ≡ Refused w)
    unfolding put_after
    came_refused w = told_exactly asks c.rules w

    -- with a number that neither the crest nor the rules of its numbers give: as the question is
    pub refused_as : (w : Refusal) → is_own w.number ≡ false → Lacks w.number rules → (came ≡ AnswerRefused w) ↔ ((verdict rules ≡ Done) × (answer_after c.rules q ≡ refused w))
    refused_as w later others =
        let lacks = lacks_other own later in
        let all = rw (append_assoc c.rules rules q.order) at (second_part (c.rules ++ rules) q.order w (lacks-++ lacks others)) in
        let some = Iff.trans (told_exactly tells c.rules w) (second_part c.rules q.order w lacks) in
        Iff.trans (Iff.trans (came_refused w) all) (
          (λ a. let h = both_hold.0 a.0 in (h.1, some.1 (h.0, a.1))),
          (λ z. let a = some.0 z.1 in (both_hold.1 (a.0, z.0), a.1)),
        )

    -- and what makes the rules hold, and the question be refused so
    pub given_as : (why : Reason) {B C : Type 0} → is_own (number why) ≡ false → Lacks (number why) rules → ((verdict rules ≡ Done) ↔ B) → ((answer_after c.rules q ≡ refused (refusal why 0)) ↔ ((check_of c ≡ Done) × C)) →
        (came ≡ AnswerRefused (refusal why 0)) ↔ ((check_of c ≡ Done) × B × C)
    unfolding refusal
    given_as why later others hold given =
        Iff.trans (refused_as (refusal why 0) later others) (
          (λ z. let g = given.0 z.1 in (g.0, hold.0 z.0, g.1)),
          (λ z. (hold.1 z.1, given.1 (z.0, z.2))),
        )

    -- with a crest's own number that no later rule gives: as the crest is
    pub refused_own : (w : Refusal) → Lacks w.number (rules ++ q.order) → (came ≡ AnswerRefused w) ↔ (check_of c ≡ Refused w)
    refused_own w lacks = Iff.trans (came_refused w) (first_part c.rules (rules ++ q.order) w lacks)

    -- with a number that no rule gives: never
    pub never_refused : (w : Refusal) → is_own w.number ≡ false → Lacks w.number rules → Lacks w.number q.order → came ≢ AnswerRefused w
    never_refused w later others lacks e = lacks→not_given (lacks-++ (lacks_other own later) (lacks-++ others lacks)) ((came_refused w).0 e)

  -- a point that is put so, answered: "the station answered is the one judged"
  pub point_answered : Gives is_own c.rules → {B : Type 0} → ((verdict rules ≡ Done) ↔ B) → (p : Point) (station : ℕ) (offset residual : ℤ) (count : ℕ) →
      (answer_after c.rules (put_after rules from_located (point_question p c.elements)) ≡ AnswerPoint station offset residual count) ↔ ((check_of c ≡ Done) × B × Answered c.elements p station offset residual count)
  unfolding point_question from_located
  point_answered own hold p station offset residual count =
      let es = c.elements in
      let at = crest_answered c own p station offset residual count in (
        (λ e.
            let on = told_answer (point_tells p es) (c.rules ++ rules) {a = LocatedAt station offset residual count} (λ why f. clash cc) ((from_answered _).0 (sym (put_after_lem rules from_located (point_question p es) (λ why. refl) c.rules) ∙ e)) in
            let h = both_hold.0 on.0 in
            (h.0, hold.0 h.1, (at.0 (rules_hold (point_question p es) c.rules h.0 ∙ on.1)).1)),
        (λ z. came_as from_located (point_question p es) (λ why. refl) (hold.1 z.1) ∙ (from_answered (located c p)).1 (at.1 (z.0, z.2))),
      )
