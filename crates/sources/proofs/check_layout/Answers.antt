-- `sources::check_layout` meets its contract, by the two forms.
use Rattle.model.specs.Refusals.{verdict, or_refused, refusal}
use Rattle.model.proofs.Answers.{told_outcome}
use Rattle.sources.specs.Sources.{layout_rules}
use Rattle.sources.proofs.check_layout.Goals as goal

pub returns-in-File : goal.returns-in-File
unfolding layout_rules
returns-in-File c = let told = told_outcome _ (rw c.in-File.is c.check_blocks.ensures.value) in record { value = told.0; paper = told.1 }

pub returns-then-count_fits : goal.returns-then-count_fits
unfolding layout_rules verdict or_refused
returns-then-count_fits c = let told = told_outcome _ (rw (c.in-Row.is, ← c.count_fits.ensures, c.if-count_fits.true)) in record { value = told.0; paper = told.1 }

pub returns-else-count_fits : goal.returns-else-count_fits
unfolding layout_rules verdict or_refused refusal
returns-else-count_fits c = let told = told_outcome _ (rw (c.in-Row.is, ← c.count_fits.ensures, c.if-count_fits.false) c.refused.ensures.value) in record { value = told.0; paper = told.1 }
