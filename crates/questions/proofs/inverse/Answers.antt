-- `questions::inverse` meets its contract: the crest's refusal, or the question on an accepted crest.
use mir.Facts.{to_z-of_z}
use Rattle.model.specs.Answers.{place_question}
use Rattle.model.proofs.Answers.{place_tells}
use Rattle.questions.proofs.Asked.{accepted, check_refuses, check_accepts}
use Rattle.questions.proofs.inverse.Goals as goal

pub inverse-requires : goal.inverse-requires
inverse-requires c = accepted _ _ _ c.check.ensures.value c.in-Done.is

pub returns-in-Refused : goal.returns-in-Refused
returns-in-Refused c = let told = check_refuses (place_question _ _) (place_tells _ _) _ c.check.ensures.value c.in-Refused.is in record { value = told.0; paper = told.1 }

pub returns-in-Done : goal.returns-in-Done
returns-in-Done c = let told = check_accepts (place_question _ _) (place_tells _ _) _ c.check.ensures.value c.in-Done.is (rw (to_z-of_z c.ranges.s, to_z-of_z c.ranges.w) at c.inverse.ensures.value) in record { value = told.0; paper = told.1 }
