-- The position of document 01's example 12 on its element, computed: L = 200,000, R = +1,000,000, anchor (0, 0), direction (ONE, 0). A definition by which v flips is refused here.
use mathlib.Core.Path.{◌≡◌, refl}
use lib.IntN.{pos, neg_ℤ}
use Rattle.model.specs.declared.Kind.TheVariants.{ExitSpiral}
use Rattle.model.specs.declared.Element.{Element}
use Rattle.model.specs.Rounding.{ONE}
use Rattle.model.specs.Series.{position_on}

abbrev exit_spiral : Element
exit_spiral = record { kind = ExitSpiral; length = 200000; x = pos 0; y = pos 0; c = pos ONE; s = pos 0; radius = pos 1000000 }

pub exit_spiral_at_start : position_on exit_spiral 0 ≡ record { x = neg_ℤ (pos 19980009); y = pos 666191 }
unfolding position_on
exit_spiral_at_start = refl
