-- After a crest's own rules, whatever its source: a rule that alone gives its number is the first to fail exactly when that number is given, and what is no refusal of the crest's own
-- is given on an accepted crest.
use Prim.Native.Nat.{ℕ}
use mathlib.Core.Bool.{Bool, true, false, ◌&&◌}
use mathlib.Core.List.{List, [], ◌∷◌, ◌++◌, append_assoc}
use mathlib.Core.Logic.Iff
use mathlib.Core.Logic.{◌↔◌}
use mathlib.Core.Path.{◌≡◌, refl, ap}
use Rattle.integers.proofs.Order.{clash}
use Rattle.model.specs.declared.Element.{Element}
use Rattle.model.specs.declared.Refusal.{Refusal}
use Rattle.model.specs.declared.Outcome.TheVariants.{Done, Refused}
use Rattle.model.specs.Refusals.{Reason, Rule, number, refusal, rule, Gives, or_refused, verdict}
use Rattle.model.specs.Crest.{Crest, check_of, is_own}
use Rattle.model.specs.Answers.{PaperAnswer, Question, answer_of, asked}
use Rattle.model.proofs.Verdict.{AllHold, none, done→all, all→done, verdict_after}
use Rattle.model.proofs.ForEach.{all_append, append_all}
use Rattle.model.proofs.Reasons.{Lacks, empty, lacks-++, lacks_other, given_exactly}
use Rattle.model.proofs.RuleNumbers.{given}
use Rattle.model.proofs.Answers.{Tells, told_later}

-- ---- the first rule that fails

-- two rules in a row with one refusal are one
pub two_rules : (why : Reason) (place : ℕ) (a b : Bool) (rs : List Rule) → verdict (rule why place a ∷ rule why place b ∷ rs) ≡ verdict (rule why place (a && b) ∷ rs)
unfolding verdict or_refused
two_rules why place true b rs = refl
two_rules why place false b rs = refl

-- rules that hold decide nothing
pub held_between : (rs ss ts : List Rule) → verdict ss ≡ Done → verdict (rs ++ (ss ++ ts)) ≡ verdict (rs ++ ts)
unfolding verdict
held_between [] ss ts e = verdict_after ss ts e
held_between (r ∷ rs) ss ts e = ap (or_refused r.holds r.why r.place) (held_between rs ss ts e)

module _ (r : Rule) (after : List Rule) (l : Lacks (number r.why) after) where
  -- at the head of an order
  pub first_given : (verdict (r ∷ after) ≡ Refused (refusal r.why r.place)) ↔ (r.holds ≡ false)
  first_given = Iff.trans (given_exactly r after l [] empty) ((λ x. x.1), (λ e. (none, e)))

  -- after two parts of an order
  given_after : (own before : List Rule) → Lacks (number r.why) own → Lacks (number r.why) before →
      (verdict (own ++ (before ++ (r ∷ after))) ≡ Refused (refusal r.why r.place)) ↔ ((verdict own ≡ Done) × AllHold before × (r.holds ≡ false))
  given_after own before j k =
      Iff.trans
      (rw (append_assoc own before (r ∷ after)) at (given_exactly r after l (own ++ before) (lacks-++ j k))) (
        (λ x. let a = append_all own x.0 in (all→done a.0, a.1, x.1)),
        (λ x. (all_append (done→all own x.0) x.1, x.2)),
      )

  module _ (c : Crest) (own : Gives is_own c.rules) (later : is_own (number r.why) ≡ false) where
    -- after the crest's own rules, and others
    pub given_after_crest : (before : List Rule) → Lacks (number r.why) before →
        (verdict (c.rules ++ (before ++ (r ∷ after))) ≡ Refused (refusal r.why r.place)) ↔ ((check_of c ≡ Done) × AllHold before × (r.holds ≡ false))
    given_after_crest before k = given_after c.rules before (lacks_other own later) k

    -- next after them
    pub next_after_crest : (verdict (c.rules ++ (r ∷ after)) ≡ Refused (refusal r.why r.place)) ↔ ((check_of c ≡ Done) × (r.holds ≡ false))
    next_after_crest = Iff.trans (given_after_crest [] empty) ((λ x. (x.0, x.2)), (λ x. (x.0, none, x.1)))

-- ---- a question to a crest

-- an answer, and a refusal with a number that is no crest's own, is given exactly when the crest is accepted and its elements give it
pub asked_exactly : {A : Type 0} {refused : Refusal → A} {paper_of : A → PaperAnswer} (question : List Element → Question A) (c : Crest) → Tells refused paper_of (question c.elements) → Gives is_own c.rules →
    (a : A) → ((w : Refusal) → a ≡ refused w → is_own w.number ≡ false) → (asked question c ≡ a) ↔ ((check_of c ≡ Done) × (answer_of (question c.elements) ≡ a))
asked_exactly question c tells own a later = told_later tells c.rules (λ w k e. clash (cc (given w own k, later w e)))
