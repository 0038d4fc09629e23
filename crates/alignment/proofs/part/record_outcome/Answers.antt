-- `alignment::part::record_outcome` meets its contract: the file's refusals, then the record's number.
use mathlib.Core.List.{[]}
use mathlib.Core.Path.{◌≡◌, sym, ◌∙◌}
use native.Mathlib.Omega.{arith}
use Rattle.model.specs.declared.Outcome.TheVariants.{Done}
use Rattle.model.specs.Refusals.{refusal, number}
use Rattle.model.specs.Crest.{check_of}
use Rattle.model.proofs.Answers.{told_outcome}
use Rattle.sources.specs.declared.Form.TheVariants.{File}
use Rattle.sources.specs.Sources.{crest_in}
use Rattle.sources.proofs.Sound.{rules_accepted}
use Rattle.alignment.proofs.PartOrders.{file_refused, number_done, number_refused}
use Rattle.alignment.proofs.part.record_outcome.Goals.{In-Done}
use Rattle.alignment.proofs.part.record_outcome.Goals as goal

pub returns-in-Refused : goal.returns-in-Refused
returns-in-Refused c =
    let told = let k = c in
    let a = k.args in
    told_outcome _ (sym (file_refused a.file.now a.r (sym k.check.ensures.value ∙ c.in-Refused.is))) in record { value = told.0; paper = told.1 }

accepted : (c : In-Done) → check_of (crest_in File c.args.file.now []) ≡ Done
accepted c = sym c.check.ensures.value ∙ c.in-Done.is

pub count_in-requires : goal.count_in-requires
count_in-requires c = (rules_accepted File _ _ (accepted c)).readable

pub returns-then-r-count_in : goal.returns-then-r-count_in
returns-then-r-count_in c =
    let told = let n = c in
    let a = n.args in
    told_outcome _ (sym (number_done a.file.now a.r (accepted (goal.at.returns-then-r-count_in c).In-Done) (omega (arith, c.if-r-count_in.true, n.count_in.ensures)))) in record { value = told.0; paper = told.1 }

pub returns : goal.returns
unfolding refusal number
returns c =
    let told = let n = c in
    let a = n.args in
    told_outcome _ (c.refused.ensures.value ∙ sym (number_refused a.file.now a.r (accepted (goal.at.returns c).In-Done) (omega (arith, c.if-r-count_in.false, n.count_in.ensures)))) in record { value = told.0; paper = told.1 }
