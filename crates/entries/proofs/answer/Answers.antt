-- `entries::answer` meets its contract: a file is one form of a crest.
use Rattle.model.specs.Acceptance.{crest_rules, crest_elements}
use Rattle.sources.specs.Sources.{layout_rules, records_in}
use Rattle.entries.proofs.answer.Goals as goal

pub returns : goal.returns
unfolding crest_rules crest_elements layout_rules records_in
returns c = record { value = c.answer.ensures.value; paper = c.answer.ensures.paper }
