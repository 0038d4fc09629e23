-- `sources::count_in` meets its contract, by the two forms.
use Rattle.sources.specs.Sources.{layout_rules, records_in}
use Rattle.sources.proofs.count_in.Goals as goal

pub record_count-requires : goal.record_count-requires
unfolding layout_rules
record_count-requires c = rw c.in-File.is at c.requires

pub returns-in-File : goal.returns-in-File
unfolding records_in
returns-in-File c = rw c.in-File.is c.record_count.ensures

pub returns-in-Row : goal.returns-in-Row
unfolding records_in
returns-in-Row c = rw c.in-Row.is
