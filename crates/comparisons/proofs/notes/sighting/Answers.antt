-- `comparisons::notes::sighting` meets its contract: the seven numbers are the row's.
use mir.Facts.{to_z-of_z}
use mir.Syntax.{w32}
use Rattle.comparisons.proofs.notes.sighting.Goals as goal

pub returns : goal.returns
returns c =
    rw (
      to_z-of_z {w = w32} {z = c.i32_at.result} (record { sfits = c.i32_at.type_inv }),
      to_z-of_z {w = w32} {z = c.i32_at-2.result} (record { sfits = c.i32_at-2.type_inv }),
      to_z-of_z {w = w32} {z = c.i32_at-3.result} (record { sfits = c.i32_at-3.type_inv }),
      to_z-of_z {w = w32} {z = c.i32_at-4.result} (record { sfits = c.i32_at-4.type_inv }),
      to_z-of_z {w = w32} {z = c.i32_at-5.result} (record { sfits = c.i32_at-5.type_inv }),
      to_z-of_z {w = w32} {z = c.i32_at-6.result} (record { sfits = c.i32_at-6.type_inv }),
      to_z-of_z {w = w32} {z = c.i32_at-7.result} (record { sfits = c.i32_at-7.type_inv }),
      c.i32_at.ensures,
      c.i32_at-2.ensures,
      c.i32_at-3.ensures,
      c.i32_at-4.ensures,
      c.i32_at-5.ensures,
      c.i32_at-6.ensures,
      c.i32_at-7.ensures,
    )
