-- `comparisons::calls::same_run` meets its contract: the length, and then eight bytes at a time.
use borrow.Author.Tests.{eq-eqb, ne_eqb}
use Rattle.comparisons.specs.Agreement.{run_is}
use Rattle.comparisons.proofs.calls.same_run.Goals as goal

pub returns-then-run-ne32 : goal.returns-then-run-ne32
unfolding run_is
returns-then-run-ne32 c = rw (ne_eqb _ _ c.if-run-ne32.true)

pub returns : goal.returns
unfolding run_is
returns c =
    rw (
      eq-eqb _ _ c.if-run-ne32.false,
      c.u64_at.ensures,
      c.u64_at-2.ensures,
      c.u64_at-3.ensures,
      c.u64_at-4.ensures,
      c.u64_at-5.ensures,
      c.u64_at-6.ensures,
      c.u64_at-7.ensures,
      c.u64_at-8.ensures,
    )
