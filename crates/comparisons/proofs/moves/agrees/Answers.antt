-- `comparisons::moves::agrees` meets its contract: the sighting and the target are the row's.
use Rattle.integers.proofs.Held.{wide_fits, widened}
use Rattle.comparisons.specs.Agreement.{move_agrees}
use Rattle.comparisons.proofs.moves.agrees.Goals as goal

pub overflow_cast-target : goal.overflow_cast-target
overflow_cast-target c = wide_fits c.i32_at.result (record { sfits = c.i32_at.type_inv })

pub overflow_cast-target-2 : goal.overflow_cast-target-2
overflow_cast-target-2 c = wide_fits c.i32_at-2.result (record { sfits = c.i32_at-2.type_inv })

pub returns : goal.returns
unfolding move_agrees
returns c =
    rw (
      c.same.ensures,
      c.sighting_stake_out.ensures.value,
      c.sighting.ensures,
      widened c.i32_at.result (record { sfits = c.i32_at.type_inv }),
      widened c.i32_at-2.result (record { sfits = c.i32_at-2.type_inv }),
      c.i32_at.ensures,
      c.i32_at-2.ensures,
    )
