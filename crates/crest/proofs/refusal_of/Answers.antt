-- `crest::refusal_of` meets its contract: the two rules of a run, in their order.
use mathlib.Core.Path.{sym, ap, ◌∙◌}
use Rattle.model.specs.Run.{is_full}
use Rattle.run.proofs.Calls.{rules_18, rules_16, rules_none}
use Rattle.crest.proofs.refusal_of.Goals as goal

pub returns-then-run-ne-RUN_SIZE : goal.returns-then-run-ne-RUN_SIZE
returns-then-run-ne-RUN_SIZE c = sym (rules_18 c.args.run.now c.if-run-ne-RUN_SIZE.true)

pub returns-then-is_full : goal.returns-then-is_full
returns-then-is_full c = sym (rules_16 c.args.run.now c.if-run-ne-RUN_SIZE.false (sym (c.is_full.ensures ∙ ap is_full c.run_at.ensures) ∙ c.if-is_full.true))

pub returns : goal.returns
returns c = sym (rules_none c.args.run.now c.if-run-ne-RUN_SIZE.false (sym (c.is_full.ensures ∙ ap is_full c.run_at.ensures) ∙ c.if-is_full.false))
