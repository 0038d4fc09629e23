-- `alignment::part::record_part` meets its contract: the part that the span of the reader's outcome names.
use mathlib.Core.List.{[]}
use mathlib.Core.Path.{◌≡◌, refl, sym, ◌∙◌}
use Rattle.model.specs.declared.Outcome.TheVariants.{Done}
use Rattle.model.specs.Records.{record_start}
use Rattle.model.specs.Answers.{reader_outcome, reader_part}
use Rattle.sources.specs.declared.Form.TheVariants.{File}
use Rattle.sources.specs.Sources.{start_in}
use Rattle.sources.proofs.FormRecords.{record_lies}
use Rattle.alignment.proofs.PartOrders.{reader_done, span_done, span_refused, lent}
use Rattle.alignment.proofs.part.record_part.Goals.{In-Done}
use Rattle.alignment.proofs.part.record_part.Goals as goal

told : (c : In-Done) → let a = c.args in reader_outcome a.file.now a.r ≡ Done
told c = sym c.record_outcome.ensures.value ∙ c.in-Done.is

pub record_in-requires : goal.record_in-requires
record_in-requires c = let told = reader_done _ _ (told c) in record { readable = told.0; r_bound = told.1 }

pub returns-in-Refused : goal.returns-in-Refused
unfolding reader_part
returns-in-Refused c =
    let a = c.args in
    let o = sym c.record_outcome.ensures.value ∙ c.in-Refused.is in
    let l = lent a.file 0 0 (span_refused a.file.now a.r o) refl refl refl in record { result_value = l.content; lent = l }

pub returns-in-Done : goal.returns-in-Done
unfolding reader_part start_in
returns-in-Done c =
    let a = c.args in
    let d = reader_done a.file.now a.r (told (goal.at.returns-in-Done c).In-Done) in
    let p = c.record_in.ensures in
    let lies = record_lies File a.file.now [] a.r d.0 d.1 in
    let l = lent a.file (record_start a.r) 32 (span_done a.file.now a.r (told (goal.at.returns-in-Done c).In-Done)) (p.result_value ∙ sym lies.1) p.size p.place in record { result_value = l.content; lent = l }
