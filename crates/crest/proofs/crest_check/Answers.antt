-- `crest::crest_check` meets its contract: a file's refusals are small.
use mathlib.Core.Path.{sym, ap, ◌∙◌, subst}
use Rattle.model.specs.declared.Outcome.{Outcome}
use Rattle.model.specs.Answers.{code, paper_of_outcome}
use Rattle.model.specs.Calls.{check_call}
use Rattle.model.specs.Crest.{file_crest}
use Rattle.sources.proofs.Sound.{file_sound}
use Rattle.codes.specs.Codes.{Codable}
use Rattle.codes.proofs.Codes.{check_codable}
use Rattle.crest.proofs.crest_check.Goals as goal

pub outcome_code-requires : goal.outcome_code-requires
outcome_code-requires c = subst (λ (o : Outcome). Codable (paper_of_outcome o)) (sym c.check-checked.ensures.value) (check_codable (file_crest c.args.crest.now) (file_sound _))

pub returns : goal.returns
unfolding check_call
returns c = c.outcome_code.ensures ∙ ap (λ (o : Outcome). code (paper_of_outcome o)) c.check-checked.ensures.value
