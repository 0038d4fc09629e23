-- `questions::locate` meets its contract: the crest's refusal, or the question on an accepted crest.
use Rattle.model.specs.Answers.{point_question}
use Rattle.model.proofs.Answers.{point_tells}
use Rattle.questions.proofs.Asked.{accepted, check_refuses, check_accepts}
use Rattle.questions.proofs.locate.Goals as goal

pub locate-requires : goal.locate-requires
locate-requires c = accepted _ _ _ c.check.ensures.value c.in-Done.is

pub returns-in-Refused : goal.returns-in-Refused
returns-in-Refused c = let told = check_refuses (point_question _) (point_tells _) _ c.check.ensures.value c.in-Refused.is in record { value = told.0; paper = told.1 }

pub returns-in-Done : goal.returns-in-Done
returns-in-Done c = let told = check_accepts (point_question _) (point_tells _) _ c.check.ensures.value c.in-Done.is c.locate.ensures.value in record { value = told.0; paper = told.1 }
