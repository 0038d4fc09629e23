-- `blocks::write_sums` meets its contract: B is put where A ends.
use mathlib.Core.List.{◌++◌}
use mathlib.Core.Path.{refl, ap, ap₂, ◌∙◌}
use native.Mathlib.Omega.{arith}
use Rattle.model.specs.Records.{put, u16_bytes}
use Rattle.fields.proofs.Puts.{put_then}
use Rattle.blocks.proofs.write_sums.Goals as goal

pub returns : goal.returns
returns c =
    let sums = c.sums_of-s in
    let room = c.args.room.now in
    c.put_u16-2.ensures
    ∙ ap (λ x. put x 510 (u16_bytes sums.result.b)) c.put_u16.ensures
    ∙ put_then room 508 510 (u16_bytes sums.result.a) (u16_bytes sums.result.b) (omega arith) refl
    ∙ ap₂ (λ a b. put room 508 (u16_bytes a ++ u16_bytes b)) sums.ensures.0 sums.ensures.1
