-- `entries::check` meets its contract: a file is one form of a crest.
use Rattle.model.specs.Acceptance.{crest_rules}
use Rattle.sources.specs.Sources.{layout_rules, records_in}
use Rattle.entries.proofs.check.Goals as goal

pub returns : goal.returns
unfolding crest_rules layout_rules records_in
returns c = record { value = c.check.ensures.value; paper = c.check.ensures.paper }
