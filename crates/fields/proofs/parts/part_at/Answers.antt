-- `fields::parts::part_at` meets its contract: the bytes from `at` to `at + n` are n bytes from `at` on.
use mathlib.Core.Path.{refl}
use Rattle.fields.proofs.PartsOf.{lent_part}
use Rattle.fields.proofs.parts.part_at.Goals as goal

pub returns : goal.returns
returns c =
    let a = c.args in record { result_value = lent_part a.bytes.now a.at a.n; place = refl }
