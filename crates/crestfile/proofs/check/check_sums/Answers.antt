-- `crestfile::check::check_sums` meets its contract: the one rule of the sums.
use mathlib.Core.Path.{sym, ◌∙◌}
use Rattle.model.specs.Refusals.{refusal, number, checksum}
use Rattle.model.proofs.InSteps.{one_done, one_refused}
use Rattle.crestfile.proofs.check.check_sums.Goals as goal

pub returns-then-sums_agree : goal.returns-then-sums_agree
returns-then-sums_agree c = sym (one_done checksum c.args.b (sym c.sums_agree.ensures ∙ c.if-sums_agree.true))

pub returns-else-sums_agree : goal.returns-else-sums_agree
unfolding refusal number
returns-else-sums_agree c = c.refused.ensures.value ∙ sym (one_refused checksum c.args.b (sym c.sums_agree.ensures ∙ c.if-sums_agree.false))
