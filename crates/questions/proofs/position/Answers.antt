-- `questions::position` meets its contract: the crest's refusal, or the question on an accepted crest.
use mir.Facts.{to_z-of_z}
use Rattle.model.specs.Answers.{station_question}
use Rattle.model.proofs.Answers.{station_tells}
use Rattle.questions.proofs.Asked.{accepted, check_refuses, check_accepts}
use Rattle.questions.proofs.position.Goals as goal

pub place-requires : goal.place-requires
place-requires c = accepted _ _ _ c.check.ensures.value c.in-Done.is

pub returns-in-Refused : goal.returns-in-Refused
returns-in-Refused c = let told = check_refuses (station_question _) (station_tells _) _ c.check.ensures.value c.in-Refused.is in record { value = told.0; paper = told.1 }

pub returns-in-Done : goal.returns-in-Done
returns-in-Done c = let told = check_accepts (station_question _) (station_tells _) _ c.check.ensures.value c.in-Done.is (rw (to_z-of_z c.ranges.s) at c.place.ensures.value) in record { value = told.0; paper = told.1 }
