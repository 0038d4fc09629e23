-- `records::wide_at` meets its contract: an i32 fits an i64.
use mir.Facts.{to_z-of_z, sfits_widen}
use mir.Syntax.{w32, w64}
use mir.Val.{SFits}
use Rattle.records.proofs.wide_at.Goals as goal

pub overflow_cast-result : goal.overflow_cast-result
overflow_cast-result c =
    let f : SFits w32 c.i32_at.result = record { sfits = c.i32_at.type_inv } in
    rw (to_z-of_z f) (sfits_widen tt f)

pub returns : goal.returns
returns c =
    let f : SFits w32 c.i32_at.result = record { sfits = c.i32_at.type_inv } in
    let g : SFits w64 c.i32_at.result = sfits_widen tt f in
    rw (to_z-of_z f, to_z-of_z g) c.i32_at.ensures
