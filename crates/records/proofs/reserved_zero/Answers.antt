-- `records::reserved_zero` meets its contract: the code makes the two tests.
use Rattle.model.specs.Acceptance.{reserved_zero}
use Rattle.records.proofs.reserved_zero.Goals as goal

pub returns-then-not-all_zero : goal.returns-then-not-all_zero
unfolding reserved_zero
returns-then-not-all_zero c = rw (← c.all_zero.ensures, c.if-not-all_zero.true)

pub returns : goal.returns
unfolding reserved_zero
returns c =
    let d = c in
    rw (← d.all_zero.ensures, d.if-not-all_zero.false, ← c.all_zero-2.ensures)
