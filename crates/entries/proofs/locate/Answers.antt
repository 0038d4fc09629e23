-- `entries::locate` meets its contract: a file is one form of a crest.
use Rattle.model.specs.Acceptance.{crest_rules, crest_elements}
use Rattle.sources.specs.Sources.{layout_rules, records_in}
use Rattle.entries.proofs.locate.Goals as goal

pub returns : goal.returns
unfolding crest_rules crest_elements layout_rules records_in
returns c = record { value = c.locate.ensures.value; paper = c.locate.ensures.paper }
