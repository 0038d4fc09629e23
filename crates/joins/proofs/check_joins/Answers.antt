-- `joins::check_joins` meets its contract. The loop's invariant: the joins before `r` refuse nothing, and `last` is where the element of record `r` ends.
use Prim.Native.Nat.{◌+◌}
use mathlib.Core.Path.{◌≡◌, sym, ap, ◌∙◌}
use native.Mathlib.Omega.{arith}
use Rattle.model.specs.declared.Element.{Element}
use Rattle.model.specs.Refusals.{verdict}
use Rattle.model.specs.Acceptance.{each_join}
use Rattle.model.proofs.Answers.{told_outcome}
use Rattle.model.proofs.InSteps.{left_all, left_next, left_refused, left_none}
use Rattle.sources.specs.Sources.{records_in}
use Rattle.sources.proofs.RecordsRead.{element_in, RecordsRead, read_asks, read_count, read_accepted}
use Rattle.joins.proofs.JoinElements.{placement_on, prepared_placed, prepared_length, small_placed, join_at, join_here}
use Rattle.joins.proofs.check_joins.Goals.{After-check_join, After-count_in-count, After-placed}
use Rattle.joins.proofs.check_joins.Goals as goal

pub count_in-count-requires : goal.count_in-count-requires
count_in-count-requires c = c.requires.readable

reading : (c : After-count_in-count) → let a = c.args in RecordsRead a.form a.crest.now a.amendment.now c.count_in-count.result
reading c = record { source = c.requires; all = c.count_in-count.ensures }

pub element_in-head-requires : goal.element_in-head-requires
element_in-head-requires c = let told = let r = reading c in read_asks r 0 (read_count r).0 in record { readable = told.0; r_bound = told.1 }

pub prepare-requires : goal.prepare-requires
prepare-requires c = let r = reading (goal.at.prepare-requires c).After-count_in-count in rw c.element_in-head.ensures (read_accepted r 0 (read_count r).0)

pub placed-last-requires : goal.placed-last-requires
placed-last-requires c = record { ready = c.prepare.ensures.ready; s_le_length = omega (arith, prepared_length c.element_in-head.result c.prepare.ensures.value) }

pub loop-r-init : goal.loop-r-init
loop-r-init c =
    let h = c in
    let e = h.element_in-head.result in
    let r = reading (goal.at.loop-r-init c).After-count_in-count in
    record {
      reading = r;
      within = (read_count r).0;
      end = rw (sym h.element_in-head.ensures) (prepared_placed e e.length c.prepare.ensures.value c.placed-last.ensures);
      left = left_all _ _;
    }

pub overflow_add-r : goal.overflow_add-r
overflow_add-r c = omega (arith, c.loop-r.invariant.within, (read_count c.loop-r.invariant.reading).1)

pub overflow_add-r-in-loop-r : goal.overflow_add-r-in-loop-r
overflow_add-r-in-loop-r c = omega (arith, (read_count c.loop-r.invariant.reading).1)

pub element_in-e-requires : goal.element_in-e-requires
element_in-e-requires c = let told = let l = c.loop-r in read_asks l.invariant.reading (l.r + 1) (omega arith) in record { readable = told.0; r_bound = told.1 }

pub prepare-p-requires : goal.prepare-p-requires
prepare-p-requires c =
    let l = c.loop-r in
    rw c.element_in-e.ensures (read_accepted l.invariant.reading (l.r + 1) (omega arith))

pub placed-requires : goal.placed-requires
placed-requires c = record { ready = c.prepare-p.ensures.ready; s_le_length = omega arith }

pub overflow_cast-r : goal.overflow_cast-r
overflow_cast-r c =
    let l = c.loop-r in
    omega (arith, l.invariant.within, (read_count l.invariant.reading).1)

-- where the next element begins
begins : (c : After-placed) → let l = c in
    let a = l.args in
    c.placed.result ≡ placement_on (element_in a.form a.crest.now a.amendment.now (l.loop-r.r + 1)) 0
begins c =
    let n = c in
    prepared_placed n.element_in-e.result 0 c.prepare-p.ensures.value c.placed.ensures ∙ ap (λ (e : Element). placement_on e 0) n.element_in-e.ensures

pub check_join-requires : goal.check_join-requires
check_join-requires c =
    let l = c.loop-r in
    let r = l.invariant.reading in record { small_placement = rw l.invariant.end (small_placed (read_accepted r l.r l.invariant.within) (omega arith)); small_placement_2 = rw (begins c) (small_placed (read_accepted r (l.r + 1) (omega arith)) (omega arith)) }

tested : (c : After-check_join) → let a = c.args in c.placed.result ≡ placement_on (element_in a.form a.crest.now a.amendment.now (c.loop-r.r + 1)) 0 → verdict (join_at (records_in a.form a.crest.now a.amendment.now) c.loop-r.r) ≡ c.check_join.result
tested c b = ap verdict (join_here c.loop-r.invariant b) ∙ sym c.check_join.ensures

pub returns-in-Refused : goal.returns-in-Refused
unfolding each_join
returns-in-Refused c =
    let told = let t = c.before.before.before in
    let l = t.loop-r in
    told_outcome _ (sym (left_refused _ _ (omega (arith, l.invariant.reading.all)) (tested (goal.at.returns-in-Refused c).After-check_join (begins (goal.at.returns-in-Refused c).After-placed) ∙ c.in-Refused.is) l.invariant.left)) in record { value = told.0; paper = told.1 }

pub placed-last-requires-in-loop-r : goal.placed-last-requires-in-loop-r
placed-last-requires-in-loop-r c =
    let p = c in record { ready = p.prepare-p.ensures.ready; s_le_length = omega (arith, prepared_length p.element_in-e.result p.prepare-p.ensures.value) }

pub overflow_add-r-in-loop-r-2 : goal.overflow_add-r-in-loop-r-2
overflow_add-r-in-loop-r-2 c =
    let l = c.loop-r in
    omega (arith, l.invariant.within, (read_count l.invariant.reading).1)

pub loop-r-preserved : goal.loop-r-preserved
loop-r-preserved c =
    let t = c.before.before.before in
    let p = t in
    let n = p in
    let l = n.loop-r in
    let e = n.element_in-e.result in
    record {
      reading = l.invariant.reading;
      within = omega (arith, n.loop-r-test.true);
      end = rw (sym n.element_in-e.ensures) (prepared_placed e e.length p.prepare-p.ensures.value c.placed-last-in-loop-r.ensures);
      left = left_next _ _ (omega (arith, l.invariant.reading.all)) (tested (goal.at.loop-r-preserved c).After-check_join (begins (goal.at.loop-r-preserved c).After-placed) ∙ c.in-Done.is) l.invariant.left;
    }

pub returns : goal.returns
unfolding each_join
returns c =
    let told = let l = c.loop-r in
    told_outcome _ (sym (left_none _ _ (omega (arith, l.invariant.reading.all)) l.invariant.left)) in record { value = told.0; paper = told.1 }
