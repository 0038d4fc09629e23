-- `codes::outcome_code` meets its contract, case by case.
use mathlib.Core.Path.{sym, ap, ◌∙◌, subst}
use Rattle.model.specs.declared.Outcome.{Outcome}
use Rattle.model.specs.Answers.{code, paper_of_outcome}
use Rattle.codes.specs.Codes.{Codable}
use Rattle.codes.proofs.outcome_code.Goals as goal

pub code_of-requires : goal.code_of-requires
unfolding paper_of_outcome
code_of-requires c = subst (λ (o : Outcome). Codable (paper_of_outcome o)) c.in-Refused.is c.requires

pub returns-in-Done : goal.returns-in-Done
unfolding code paper_of_outcome
returns-in-Done c = sym (ap (λ (o : Outcome). code (paper_of_outcome o)) c.in-Done.is)

pub returns-in-Refused : goal.returns-in-Refused
unfolding code paper_of_outcome
returns-in-Refused c = c.code_of.ensures ∙ sym (ap (λ (o : Outcome). code (paper_of_outcome o)) c.in-Refused.is)
