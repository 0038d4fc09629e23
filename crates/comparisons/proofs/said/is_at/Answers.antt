-- `comparisons::said::is_at` meets its contract: eight bytes and the number that they are in two's complement tell each other.
use mathlib.Core.Path.{ap, ◌∙◌}
use lib.Dec.{eqb}
use mir.Syntax.{w64}
use mir.Val.{of_z}
use mir.Facts.{of_z-to_z}
use Rattle.comparisons.proofs.said.is_at.Goals as goal

pub returns : goal.returns
returns c =
    ap (eqb (of_z w64 c.args.z)) (ap (of_z w64) c.cast_signed.ensures ∙ of_z-to_z {w = w64} (record { fits = c.u64_at.type_inv }) ∙ c.u64_at.ensures)
