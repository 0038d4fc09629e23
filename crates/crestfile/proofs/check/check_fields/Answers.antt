-- `crestfile::check::check_fields` meets its contract: the one rule of the fields.
use mathlib.Core.Path.{sym, ◌∙◌}
use Rattle.model.specs.Refusals.{refusal, number, block_field}
use Rattle.model.proofs.InSteps.{one_done, one_refused}
use Rattle.crestfile.proofs.check.check_fields.Goals as goal

pub returns-then-fields_fit : goal.returns-then-fields_fit
returns-then-fields_fit c = sym (one_done block_field c.args.b (sym c.fields_fit.ensures ∙ c.if-fields_fit.true))

pub returns-else-fields_fit : goal.returns-else-fields_fit
unfolding refusal number
returns-else-fields_fit c = c.refused.ensures.value ∙ sym (one_refused block_field c.args.b (sym c.fields_fit.ensures ∙ c.if-fields_fit.false))
