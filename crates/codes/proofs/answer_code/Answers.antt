-- `codes::answer_code` meets its contract, case by case.
use mathlib.Core.Path.{sym, ap, ◌∙◌, subst}
use Rattle.model.specs.declared.ReadingAnswer.{ReadingAnswer}
use Rattle.model.specs.Answers.{code}
use Rattle.model.specs.Readings.{paper_of_reading}
use Rattle.codes.specs.Codes.{Codable}
use Rattle.codes.proofs.answer_code.Goals as goal

pub code_of-requires : goal.code_of-requires
unfolding paper_of_reading
code_of-requires c =
    let k = subst (λ (a : ReadingAnswer). Codable (paper_of_reading 0 a)) c.in-Refused.is c.requires in
    record { number = k.number; place = k.place }

pub returns-in-PlanePoint : goal.returns-in-PlanePoint
unfolding code paper_of_reading
returns-in-PlanePoint c = sym (ap (λ (a : ReadingAnswer). code (paper_of_reading 0 a)) c.in-PlanePoint.is)

pub returns-in-LinePlace : goal.returns-in-LinePlace
unfolding code paper_of_reading
returns-in-LinePlace c = sym (ap (λ (a : ReadingAnswer). code (paper_of_reading 0 a)) c.in-LinePlace.is)

pub returns-in-Refused : goal.returns-in-Refused
unfolding code paper_of_reading
returns-in-Refused c = c.code_of.ensures ∙ sym (ap (λ (a : ReadingAnswer). code (paper_of_reading 0 a)) c.in-Refused.is)
