-- `comparisons::places::agrees` meets its contract: an element is prepared where its record is accepted.
use mathlib.Core.Path.{sym, ◌∙◌, subst}
use borrow.Author.Tests.{eq-eqb, ne_eqb}
use Rattle.model.specs.Accepted.{Accepted}
use Rattle.model.proofs.Accepted.{record_accepted}
use Rattle.elements.specs.Prepared.{prepared_of}
use Rattle.comparisons.specs.Agreement.{accepts, record_agrees}
use Rattle.comparisons.proofs.places.agrees.Goals as goal

pub returns-then-rec-ne-RECORD_SIZE : goal.returns-then-rec-ne-RECORD_SIZE
unfolding record_agrees
returns-then-rec-ne-RECORD_SIZE c = rw (ne_eqb _ _ c.if-rec-ne-RECORD_SIZE.true)

pub prepare-requires : goal.prepare-requires
prepare-requires c =
    subst Accepted (sym c.element.ensures) (record_accepted _ 0 (sym c.check_record.ensures.value ∙ c.in-Done.is))

pub returns-in-Refused : goal.returns-in-Refused
unfolding record_agrees accepts
returns-in-Refused c =
    rw (eq-eqb _ _ c.if-rec-ne-RECORD_SIZE.false, sym c.check_record.ensures.value ∙ c.in-Refused.is)

pub returns-in-Done : goal.returns-in-Done
unfolding record_agrees accepts prepared_of
returns-in-Done c =
    rw (c.agrees_on.ensures, c.prepare.ensures.value, c.element.ensures, eq-eqb _ _ c.if-rec-ne-RECORD_SIZE.false, sym c.check_record.ensures.value ∙ c.in-Done.is)
