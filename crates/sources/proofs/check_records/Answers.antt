-- `sources::check_records` meets its contract. The loop's invariant: the records before `r` refuse nothing.
use mathlib.Core.Path.{sym, ◌∙◌}
use native.Mathlib.Omega.{arith}
use Rattle.model.specs.Acceptance.{each_record}
use Rattle.model.proofs.Answers.{told_outcome}
use Rattle.model.proofs.InSteps.{left_all, left_next, left_refused, left_none}
use Rattle.sources.proofs.FormRecords.{records_counted}
use Rattle.sources.proofs.check_records.Goals as goal

pub loop-r-init : goal.loop-r-init
loop-r-init c = (c.count_in-n.ensures, left_all _ _)

pub check_in-requires : goal.check_in-requires
check_in-requires c = record { readable = c.requires; r_bound = omega (arith, c.loop-r-test.true, c.loop-r.invariant.0) }

pub returns-in-Refused : goal.returns-in-Refused
unfolding each_record
returns-in-Refused c =
    let told = let t = c in
    let l = t.loop-r in
    told_outcome _ (rw (← l.invariant.0) (sym (left_refused _ _ (omega arith) (sym t.check_in.ensures ∙ c.in-Refused.is) l.invariant.1))) in record { value = told.0; paper = told.1 }

pub overflow_add-r : goal.overflow_add-r
overflow_add-r c =
    let o = c in
    omega (arith, o.loop-r-test.true, o.loop-r.invariant.0, records_counted _ _ _ o.requires)

pub loop-r-preserved : goal.loop-r-preserved
loop-r-preserved c =
    let t = c in
    let l = t.loop-r in
    (l.invariant.0, left_next _ _ (omega (arith, t.loop-r-test.true)) (sym t.check_in.ensures ∙ c.in-Done.is) l.invariant.1)

pub returns : goal.returns
unfolding each_record
returns c =
    let told = let l = c.loop-r in
    told_outcome _ (rw (← l.invariant.0) (sym (left_none _ _ (omega (arith, c.loop-r-test.false)) l.invariant.1))) in record { value = told.0; paper = told.1 }
