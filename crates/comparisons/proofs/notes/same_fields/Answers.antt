-- `comparisons::notes::same_fields` meets its contract, field by field.
use mathlib.Core.Path.{refl}
use Rattle.comparisons.specs.Notes.{same_fields}
use Rattle.comparisons.proofs.notes.same_fields.Goals as goal

pub returns : goal.returns
unfolding same_fields
returns c = refl
