-- A sighting as a C call gets it: seven numbers of 32 bits, each as it came.
use mathlib.Core.Path.{◌≡◌}
use lib.IntN.{ℤ}
use mir.Facts.{to_z-of_z}
use mir.Syntax.{w32}
use mir.Val.{SFits, to_z, of_z}
use Rattle.model.specs.Calls.{sighting_of}

abbrev back : ℤ → ℤ
back z = to_z w32 (of_z w32 z)

pub sighting_came : {x y b g a h d : ℤ} → SFits w32 x → SFits w32 y → SFits w32 b → SFits w32 g → SFits w32 a → SFits w32 h → SFits w32 d →
    sighting_of (back x) (back y) (back b) (back g) (back a) (back h) (back d) ≡ sighting_of x y b g a h d
sighting_came fx fy fb fg fa fh fd = rw (to_z-of_z fx, to_z-of_z fy, to_z-of_z fb, to_z-of_z fg, to_z-of_z fa, to_z-of_z fh, to_z-of_z fd)
