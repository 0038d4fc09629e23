-- `alignment::write::outcome_of` meets its contract: the records in a row, then the room.
use mathlib.Core.List.{[]}
use mathlib.Core.Path.{◌≡◌, sym, ◌∙◌}
use native.Mathlib.Omega.{arith}
use Rattle.model.specs.declared.Outcome.TheVariants.{Done}
use Rattle.model.specs.Refusals.{refusal, number}
use Rattle.model.specs.Crest.{check_of}
use Rattle.sources.specs.declared.Form.TheVariants.{Row}
use Rattle.sources.specs.Sources.{crest_in}
use Rattle.alignment.proofs.WriteOrders.{records_refused, room_fits, room_refused}
use Rattle.alignment.proofs.write.outcome_of.Goals.{In-Done}
use Rattle.alignment.proofs.write.outcome_of.Goals as goal

pub returns-in-Refused : goal.returns-in-Refused
returns-in-Refused c =
    let k = c in
    let a = k.args in
    sym (records_refused a.records.now a.room (sym k.check.ensures.value ∙ c.in-Refused.is))

accepted : (c : In-Done) → check_of (crest_in Row c.args.records.now []) ≡ Done
accepted c = sym c.check.ensures.value ∙ c.in-Done.is

pub returns-then-room-blocks_needed : goal.returns-then-room-blocks_needed
unfolding refusal number
returns-then-room-blocks_needed c =
    let n = c in
    let a = n.args in
    c.refused.ensures.value ∙ sym (room_refused a.records.now a.room (accepted (goal.at.returns-then-room-blocks_needed c).In-Done) (omega (arith, c.if-room-blocks_needed.true, n.blocks_needed.ensures)))

pub returns : goal.returns
returns c =
    let n = c in
    let a = n.args in
    sym (room_fits a.records.now a.room (accepted (goal.at.returns c).In-Done) (omega (arith, c.if-room-blocks_needed.false, n.blocks_needed.ensures)))
