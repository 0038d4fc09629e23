-- `run_bytes::run_at` meets its contract, field by field.
use mathlib.Core.Path.{◌∙◌}
use mir.Syntax.{w32}
use mir.ValLaws.{to_z-of_z}
use Rattle.model.specs.Run.{run_at}
use Rattle.run_bytes.proofs.run_at.Goals as goal

pub returns : goal.returns
unfolding run_at
returns c =
    rw (
      c.u16_at.ensures,
      c.u16_at-2.ensures,
      c.u16_at-3.ensures,
      c.u16_at-4.ensures,
      c.u16_at-5.ensures,
      to_z-of_z w32 c.i32_at.result (record { sfits = c.i32_at.type_inv }) ∙ c.i32_at.ensures,
      to_z-of_z w32 c.i32_at-2.result (record { sfits = c.i32_at-2.type_inv }) ∙ c.i32_at-2.ensures,
      to_z-of_z w32 c.i32_at-3.result (record { sfits = c.i32_at-3.type_inv }) ∙ c.i32_at-3.ensures,
    )
