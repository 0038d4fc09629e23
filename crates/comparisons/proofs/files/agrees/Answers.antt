-- `comparisons::files::agrees` meets its contract: a case for each outcome.
use mathlib.Core.Path.{sym, ◌∙◌}
use Rattle.comparisons.specs.Agreement.{outcome_is, file_agrees}
use Rattle.comparisons.proofs.files.agrees.Goals as goal

pub returns-in-Done : goal.returns-in-Done
unfolding file_agrees outcome_is
returns-in-Done c =
    rw (sym c.check.ensures.value ∙ c.in-Done.is, c.u16_at-place.ensures, c.u16_at-number.ensures)

pub returns-in-Refused : goal.returns-in-Refused
unfolding file_agrees outcome_is
returns-in-Refused c =
    rw (sym c.check.ensures.value ∙ c.in-Refused.is, c.u16_at-place.ensures, c.u16_at-number.ensures)
