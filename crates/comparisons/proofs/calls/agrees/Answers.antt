-- `comparisons::calls::agrees` meets its contract: the call has the lent bytes, and the rest of the run stays.
use Prim.Native.Nat.{ℕ, ◌-◌, ◌≤◌}
use mathlib.Core.Bool.{Bool, ◌&&◌}
use mathlib.Core.List.{List, ◌++◌}
use mathlib.Core.Path.{◌≡◌, refl}
use native.Mathlib.Nat.{sub-zero}
use borrow.Author.Tests.{le-leb, lt-leb}
use lib.Dec.{eqb}
use lib.ListN.{length, take, drop}
use Rattle.model.specs.Records.{byte_at, u32_at}
use Rattle.comparisons.specs.Agreement.{called_by, run_is, called_on, call_agrees, run_after_call}
use Rattle.comparisons.proofs.calls.agrees.Goals as goal

-- of the call's value v and the lent bytes l that it leaves
agreed : (row file run : List ℕ) {lent v n : ℕ} {l : List ℕ} {same : Bool} → lent ≡ byte_at row 1 → lent ≤ length run → (v, l) ≡ called_by row file (take (lent - 0) run) → n ≡ u32_at row 4
    → same ≡ run_is row (l ++ drop (lent - 0) run) → (eqb v n && same ≡ call_agrees row file run) × (l ++ drop (lent - 0) run ≡ run_after_call row file run)
unfolding called_on call_agrees run_after_call
agreed row file run {lent} a h called b s = rw (s, b, sub-zero lent, ← a, le-leb _ _ h, ← rw (sub-zero lent) at called) (refl, refl)

pub returns-then-run-lent-clause-value : goal.returns-then-run-lent-clause-value
unfolding call_agrees
returns-then-run-lent-clause-value c = rw (← c.wide-lent.ensures, lt-leb _ _ c.if-run-lent.true)

pub returns-then-run-lent-clause-run_after : goal.returns-then-run-lent-clause-run_after
unfolding run_after_call
returns-then-run-lent-clause-run_after c = rw (← c.wide-lent.ensures, lt-leb _ _ c.if-run-lent.true)

pub returns : goal.returns
returns c =
    let told = agreed c.args.row.now c.args.crest.now c.args.run.now c.wide-lent.ensures c.if-run-lent.false c.value-v.ensures c.u32_at.ensures c.same_run.ensures in
    record { value = told.0; run_after = told.1 }
