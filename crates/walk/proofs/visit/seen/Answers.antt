-- `walk::visit::seen` meets its contract: each return is the case of `seen_at` that the tests led to.
use native.Mathlib.Nat.{le_of_lt, le_of_eq, min-eq_left, min-eq_right}
use borrow.Author.Tests.{lt-ltb, le-ltb, eq-eqb, ne_eqb}
use Rattle.walk.specs.Search.{nearer, seen_at}
use Rattle.walk.proofs.visit.seen.Goals as goal

pub returns-then-d-w : goal.returns-then-d-w
unfolding seen_at nearer
returns-then-d-w c = simp (min-eq_right (le_of_lt c.if-d-w.true), lt-ltb _ _ c.if-d-w.true)

pub returns-then-s-w : goal.returns-then-s-w
unfolding seen_at nearer
returns-then-s-w c =
    let tie = c.if-d-w-2.true in
    simp (min-eq_right (le_of_eq tie), le-ltb _ _ c.if-d-w.false, eq-eqb _ _ tie, lt-ltb _ _ c.if-s-w.true)

pub returns-else-s-w : goal.returns-else-s-w
unfolding seen_at nearer
returns-else-s-w c =
    let left = c.if-d-w.false in
    simp (min-eq_left left, le-ltb _ _ left, eq-eqb _ _ c.if-d-w-2.true, le-ltb _ _ c.if-s-w.false)

pub returns-else-d-w-2 : goal.returns-else-d-w-2
unfolding seen_at nearer
returns-else-d-w-2 c =
    let left = c.if-d-w.false in
    simp (min-eq_left left, le-ltb _ _ left, ne_eqb _ _ c.if-d-w-2.false)
