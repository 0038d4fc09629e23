-- `entries::inverse` meets its contract: a file is one form of a crest.
use mir.Facts.{to_z-of_z}
use Rattle.model.specs.Acceptance.{crest_rules, crest_elements}
use Rattle.sources.specs.Sources.{layout_rules, records_in}
use Rattle.entries.proofs.inverse.Goals as goal

pub returns : goal.returns
unfolding crest_rules crest_elements layout_rules records_in
returns c =
    let told = rw (to_z-of_z c.ranges.s, to_z-of_z c.ranges.w) at c.inverse.ensures in
    record { value = told.value; paper = told.paper }
