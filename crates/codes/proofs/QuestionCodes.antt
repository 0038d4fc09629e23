-- A question's refusal has a code: it is that of the rules before it, whose places are at most 60, or one without a place. So a reading's and a sighting's is, on a crest of any source.
use mathlib.Core.List.{List}
use mathlib.Core.Path.{sym, subst}
use native.Mathlib.Omega.{arith}
use Prim.Native.Nat.{ℕ}
use lib.IntN.{ℤ}
use Rattle.model.specs.declared.Refusal.{Refusal}
use Rattle.model.specs.declared.Outcome.{Outcome}
use Rattle.model.specs.declared.Outcome.TheVariants.{Done, Refused}
use Rattle.model.specs.declared.Observation.{Observation}
use Rattle.model.specs.declared.ReadingAnswer.{ReadingAnswer}
use Rattle.model.specs.declared.ReadingAnswer.TheVariants.{PlanePoint as AnswerPoint, LinePlace as AnswerPlace, Refused as AnswerRefused}
use Rattle.model.specs.Refusals.{Rule}
use Rattle.model.specs.Crest.{Crest, SoundCrest}
use Rattle.model.specs.Answers.{PaperAnswer, paper_if, paper_of_outcome, Question, answer_after, paper_after}
use Rattle.model.specs.Readings.{paper_of_reading}
use Rattle.model.specs.Sightings.{observed_to, observed_count}
use Rattle.model.proofs.Answers.{Bare, none, next, Tells, told_paper, observed_tells}
use Rattle.crestfile.proofs.Placed.{PlacedOrder, none_placed, rule_placed}
use Rattle.codes.specs.Codes.{Codable}
use Rattle.codes.proofs.Codes.{after_codable}

-- ---- a question, after the rules that come before its own

bare_placed : {rs : List Rule} → Bare rs → PlacedOrder rs
bare_placed none = none_placed
bare_placed (next {r} {rs} e k) = rule_placed r rs (omega (arith, e)) (λ d. bare_placed k)

paper_codable : (o : Outcome) (values : List ℤ) → Codable (paper_of_outcome o) → Codable (paper_if o values)
unfolding paper_of_outcome paper_if
paper_codable Done values k = record { number = k.number; place = k.place }
paper_codable (Refused why) values k = record { number = k.number; place = k.place }

module _ {A : Type 0} {refused : Refusal → A} {paper_of : A → PaperAnswer} {q : Question A} (tells : Tells refused paper_of q) (before : List Rule) (placed : PlacedOrder before) where
  pub question_codable : Codable (paper_of (answer_after before q))
  unfolding paper_after
  question_codable = subst Codable (sym (told_paper tells before)) (paper_codable _ q.values (after_codable before q.order placed (bare_placed tells.bare)))

-- ---- a reading or a sighting

-- its number and place are the same for any number of values
any_values : (n : ℕ) (a : ReadingAnswer) → Codable (paper_of_reading n a) → Codable (paper_of_reading 0 a)
unfolding paper_of_reading
any_values n (AnswerPoint station offset residual visits) k = k
any_values n (AnswerPlace x y) k = k
any_values n (AnswerRefused why) k = record { number = k.number; place = k.place }

pub answer_codable : (c : Crest) → SoundCrest c → (o : Observation) → Codable (paper_of_reading 0 (observed_to c o))
answer_codable c sound o = any_values (observed_count o) (observed_to c o) (question_codable (observed_tells o c.elements) c.rules sound.places)
