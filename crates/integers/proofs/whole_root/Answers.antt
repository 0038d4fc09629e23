-- `integers::whole_root` meets its contract. The first loop's invariant bounds r, which falls; the second's adds that r's square is at most x, and r grows.
-- What the two tests leave is that r is the root.
use Rattle.std.proofs.Common.{ℕ, ◌+◌, ◌-◌, ◌*◌, ◌^◌, ◌<◌, arith, w64, Fits}
use Rattle.integers.proofs.Abs.{square-≤, <-square}
use Rattle.integers.proofs.Root.{square_next, root_unique}
use Rattle.integers.proofs.whole_root.Goals as goal

square_fits : {r : ℕ} → r < 2 ^ 32 → Fits w64 (r * r)
square_fits {r} h = omega (arith, square-≤ {m = r} {n = 2 ^ 32 - 1} (omega arith))

above_0 : {x r : ℕ} → x < r * r → 0 < r
above_0 {r = r} h = <-square {m = 0} {n = r} (omega arith)

pub overflow_mul-r : goal.overflow_mul-r
overflow_mul-r c = square_fits c.loop-r.invariant

pub overflow_sub-r : goal.overflow_sub-r
overflow_sub-r c = above_0 c.loop-r-test.true

pub loop-r-smaller : goal.loop-r-smaller
loop-r-smaller c = omega (arith, above_0 c.loop-r-test.true)

pub overflow_mul-r-in-loop-r-2-2 : goal.overflow_mul-r-in-loop-r-2-2
overflow_mul-r-in-loop-r-2-2 c = square_fits c.loop-r-2.invariant.1

pub loop-r-2-preserved : goal.loop-r-2-preserved
loop-r-2-preserved c =
    let r : ℕ = c.before.loop-r-2.r in
    let e = square_next r in
    (omega (arith, e), <-square {m = r + 1} {n = 2 ^ 32} (omega (arith, e)))

pub returns : goal.returns
returns c =
    let r : ℕ = c.before.loop-r-2.r in record { value = root_unique (record { low = c.before.loop-r-2.invariant.0; high = omega (arith, square_next r) }); small = c.before.loop-r-2.invariant.1 }
