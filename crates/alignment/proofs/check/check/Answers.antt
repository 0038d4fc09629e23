-- `alignment::check::check` meets its contract: the layout, each record, the joins.
use mathlib.Core.Path.{◌≡◌, sym, ◌∙◌}
use Rattle.model.specs.declared.Outcome.TheVariants.{Done}
use Rattle.model.specs.Refusals.{verdict}
use Rattle.model.specs.Acceptance.{each_record}
use Rattle.model.proofs.Answers.{told_outcome}
use Rattle.sources.specs.Sources.{records_in, Readable}
use Rattle.sources.proofs.Sound.{records_accepted}
use Rattle.alignment.proofs.CheckOrders.{layout_refused, record_refused, joins_decide}
use Rattle.alignment.proofs.check.check.Goals.{In-Done, In-Done-check_records}
use Rattle.alignment.proofs.check.check.Goals as goal

pub returns-in-Refused : goal.returns-in-Refused
returns-in-Refused c =
    let told = let l = c in
    let a = l.args in
    told_outcome _ (sym (layout_refused a.form a.crest.now a.amendment.now (sym l.check_layout.ensures.value ∙ c.in-Refused.is))) in record { value = told.0; paper = told.1 }

readable : (c : In-Done) → let a = c.args in Readable a.form a.crest.now a.amendment.now
readable c = sym c.check_layout.ensures.value ∙ c.in-Done.is

pub check_records-requires : goal.check_records-requires
check_records-requires c = readable c

pub returns-in-Refused-check_records : goal.returns-in-Refused-check_records
returns-in-Refused-check_records c =
    let told = let r = c in
    let a = r.args in
    told_outcome _ (sym (record_refused a.form a.crest.now a.amendment.now (readable (goal.at.returns-in-Refused-check_records c).In-Done) (sym r.check_records.ensures.value ∙ c.in-Refused-check_records.is))) in record { value = told.0; paper = told.1 }

each_done : (c : In-Done-check_records) → let a = c.args in verdict (each_record (records_in a.form a.crest.now a.amendment.now)) ≡ Done
each_done c = sym c.check_records.ensures.value ∙ c.in-Done-check_records.is

pub check_joins-requires : goal.check_joins-requires
check_joins-requires c =
    let l = c.before.before.before in
    let a = l.args in
    records_accepted a.form a.crest.now a.amendment.now (readable (goal.at.check_joins-requires c).In-Done) (each_done c)

pub returns : goal.returns
returns c =
    let told = let r = c.before in
    let l = r.before.before.before in
    let a = l.args in
    told_outcome _ (c.check_joins.ensures.value ∙ sym (joins_decide a.form a.crest.now a.amendment.now (readable (goal.at.returns c).In-Done) (each_done (goal.at.returns c).In-Done-check_records))) in record { value = told.0; paper = told.1 }
