-- `records::kind_in` meets its contract: a case for each thing that a kind byte says.
use mathlib.Core.Path.{sym, ap, ◌∙◌}
use Rattle.model.specs.Acceptance.{kind_in}
use Rattle.records.proofs.kind_in.Goals as goal

pub returns-in-Damaged : goal.returns-in-Damaged
unfolding kind_in
returns-in-Damaged c = ap kind_in (sym c.in-Damaged.is ∙ c.kind_of.ensures)

pub returns-in-Known : goal.returns-in-Known
unfolding kind_in
returns-in-Known c = ap kind_in (sym c.in-Known.is ∙ c.kind_of.ensures)

pub returns-in-Later : goal.returns-in-Later
unfolding kind_in
returns-in-Later c = ap kind_in (sym c.in-Later.is ∙ c.kind_of.ensures)
