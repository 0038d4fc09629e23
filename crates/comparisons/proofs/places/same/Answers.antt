-- `comparisons::places::same` meets its contract, number by number.
use borrow.Author.Rules.{rules}
use mir.Syntax.{w64}
use mir.ValLaws.{to_z-of_z}
use Rattle.comparisons.specs.Agreement.{placement_is}
use Rattle.comparisons.proofs.places.same.Goals as goal

pub returns : goal.returns
unfolding placement_is
returns c =
    rw (
      c.is_at.ensures,
      c.is_at-2.ensures,
      c.is_at-3.ensures,
      c.is_at-4.ensures,
      to_z-of_z w64 c.args.p.x (search rules),
      to_z-of_z w64 c.args.p.y (search rules),
      to_z-of_z w64 c.args.p.tx (search rules),
      to_z-of_z w64 c.args.p.ty (search rules),
    )
