-- `alignment::write::write` meets its contract: the room changes only where the outcome is done.
use mathlib.Core.Path.{◌≡◌, sym, ◌∙◌}
use lib.ListN.{length}
use Rattle.model.specs.declared.Outcome.TheVariants.{Done}
use Rattle.model.specs.Writer.{writer_outcome}
use Rattle.model.proofs.Answers.{told_outcome}
use Rattle.alignment.proofs.WriteOrders.{done_fits, room_done, room_kept}
use Rattle.alignment.proofs.write.write.Goals.{In-Done}
use Rattle.alignment.proofs.write.write.Goals as goal

told : (c : In-Done) → let a = c.args in writer_outcome a.records.now (length a.room.now) ≡ Done
told c = sym c.outcome_of.ensures ∙ c.in-Done.is

pub write_blocks-requires : goal.write_blocks-requires
write_blocks-requires c = let told = done_fits _ _ (told (goal.at.write_blocks-requires c).In-Done) in record { records_value = told.0; records_in_bounds = told.1 }

pub returns-in-Refused : goal.returns-in-Refused
returns-in-Refused c =
    let o = c in
    let a = o.args in
    let e = sym o.outcome_of.ensures ∙ c.in-Refused.is in
    let s = told_outcome _ (sym e) in record { value = s.0; room_after = room_kept a.records.now a.room.now e; paper = s.1 }

pub returns-in-Done : goal.returns-in-Done
returns-in-Done c =
    let w = c in
    let d = (goal.at.returns-in-Done c).In-Done in
    let a = c.args in
    let s = told_outcome _ (sym (told d)) in record { value = s.0; room_after = w.write_blocks.ensures ∙ room_done a.records.now a.room.now (told d); paper = s.1 }
