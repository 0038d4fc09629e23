-- `sources::start_in` meets its contract, by the two forms.
use Rattle.sources.specs.Sources.{start_in}
use Rattle.sources.proofs.start_in.Goals as goal

pub returns-in-File : goal.returns-in-File
unfolding start_in
returns-in-File c = rw c.in-File.is c.record_start.ensures

pub returns-in-Row : goal.returns-in-Row
unfolding start_in
returns-in-Row c = rw c.in-Row.is
