-- `comparisons::agrees` meets its contract: a case for each sort.
use native.Mathlib.Omega.{arith}
use borrow.Author.Tests.{ne_eqb}
use Rattle.comparisons.specs.Agreement.{row_agrees}
use Rattle.comparisons.proofs.agrees.Goals as goal

pub returns-in-1 : goal.returns-in-1
unfolding row_agrees
returns-in-1 c = rw (c.in-1.is, c.agrees.ensures)

pub returns-in-2 : goal.returns-in-2
unfolding row_agrees
returns-in-2 c = rw (c.in-2.is, c.agrees-in-2.ensures)

pub returns-in-3 : goal.returns-in-3
unfolding row_agrees
returns-in-3 c = rw (c.in-3.is, c.agrees-in-3.ensures)

pub returns-in-4 : goal.returns-in-4
unfolding row_agrees
returns-in-4 c = rw (c.in-4.is, c.agrees-in-4.ensures)

pub returns-in-5 : goal.returns-in-5
unfolding row_agrees
returns-in-5 c = rw (c.in-5.is, c.agrees-in-5.ensures.value)

pub returns-in-6 : goal.returns-in-6
unfolding row_agrees
returns-in-6 c = rw c.in-6.is c.agrees-in-6.ensures

pub returns-in-7 : goal.returns-in-7
unfolding row_agrees
returns-in-7 c = rw c.in-7.is c.agrees-in-7.ensures

pub returns-in-8 : goal.returns-in-8
unfolding row_agrees
returns-in-8 c = rw (c.in-8.is, c.agrees-in-8.ensures)

pub returns-in-9 : goal.returns-in-9
unfolding row_agrees
returns-in-9 c = rw (c.in-9.is, c.agrees-in-9.ensures)

pub returns-in_default : goal.returns-in_default
unfolding row_agrees
returns-in_default c =
    let s = c.args.sort in
    rw (
      ne_eqb s 1 (λ e. omega arith),
      ne_eqb s 2 (λ e. omega arith),
      ne_eqb s 3 (λ e. omega arith),
      ne_eqb s 4 (λ e. omega arith),
      ne_eqb s 5 (λ e. omega arith),
      ne_eqb s 6 (λ e. omega arith),
      ne_eqb s 7 (λ e. omega arith),
      ne_eqb s 8 (λ e. omega arith),
      ne_eqb s 9 (λ e. omega arith),
    )
