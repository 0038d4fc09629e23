-- `stations::element_of` meets its contract. The invariant: the lengths of the elements before, and the rest of the way, are the station.
use Prim.Native.Nat.{ℕ, suc, ◌≤◌, ◌<◌}
use mathlib.Core.List.{List, []}
use mathlib.Core.Path.{◌≡◌, ap, ◌∙◌}
use native.Mathlib.Omega.{arith}
use native.Mathlib.Numerals.{add-one}
use lib.ListN.{length, take, drop, drop_of_length-le}
use lib.Seq.{take-length}
use Rattle.model.specs.declared.Element.{Element}
use Rattle.model.specs.Stations.{at_element, at_station, total}
use Rattle.model.specs.Walk.{own_stations}
use Rattle.model.specs.Accepted.{Accepted}
use Rattle.walk_laws.proofs.Own.{own_between}
use Rattle.sources.specs.Sources.{elements_lent}
use Rattle.sources.proofs.RecordsRead.{RecordsRead, element_in, read_asks, read_at, read_length, read_count, read_accepted}
use Rattle.stations.proofs.StationTotal.{read_ends}
use Rattle.stations.proofs.StationAt.{at_number}
use Rattle.stations.proofs.element_of.Goals.{After-element_in-e, At-loop-i}
use Rattle.stations.proofs.element_of.Goals as goal

module _ (c : At-loop-i) where
  abbrev es : List Element
  es = elements_lent c.args.form c.args.crest c.args.amendment

  abbrev el : Element
  el = element_in c.args.form c.args.crest.now c.args.amendment.now c.loop-i.i

  abbrev after : List Element
  after = drop (suc c.loop-i.i) es

  -- the element of this turn answers, where the rest is an own station of it
  answers : {e : Element} → e ≡ el → c.loop-i.rest < own_stations el after → c.loop-i.rest ≤ el.length →
      (at_station es c.args.s ≡ at_element c.loop-i.i e c.loop-i.rest) × (Accepted e × (c.loop-i.rest ≤ e.length))
  answers q own within =
      let l = c.loop-i in
      let r = l.invariant.0 in
      let at = at_number es l.i el l.rest (omega (arith, read_length r, l.invariant.1)) (read_at r l.i l.invariant.1) own in
      rw q (rw l.invariant.2 at at, (read_accepted r l.i l.invariant.1, within))

pub count_in-count-requires : goal.count_in-count-requires
count_in-count-requires c = c.requires.source_accepted.readable

pub loop-i-init : goal.loop-i-init
unfolding total
loop-i-init c =
    let a = c.args in
    let r : RecordsRead a.form a.crest.now a.amendment.now c.count_in-count.result = record { source = c.requires.source_accepted; all = c.count_in-count.ensures } in
    (r, omega (arith, (read_count r).0), omega arith)

pub overflow_add-i : goal.overflow_add-i
overflow_add-i c = omega (arith, read_count c.loop-i.invariant.0, c.loop-i.invariant.1)

pub element_in-e-requires : goal.element_in-e-requires
element_in-e-requires c = let l = c.loop-i in let told = read_asks l.invariant.0 l.i l.invariant.1 in record { readable = told.0; r_bound = told.1 }

length_is : (c : After-element_in-e) → c.element_in-e.result.length ≡ (element_in c.args.form c.args.crest.now c.args.amendment.now c.loop-i.i).length
length_is c = ap (λ (e : Element). e.length) c.element_in-e.ensures

pub returns-then-rest-n : goal.returns-then-rest-n
returns-then-rest-n c =
    let o = (goal.at.returns-then-rest-n c).At-loop-i in
    let short : c.loop-i.rest < (el o).length = omega (arith, c.if-rest-n.true, length_is (goal.at.returns-then-rest-n c).After-element_in-e) in
    let told = answers o c.element_in-e.ensures (omega (arith, own_between (el o) (after o))) (omega arith) in
    record { s_value = told.0; reachable = told.1 }

pub overflow_add-i-in-loop-i : goal.overflow_add-i-in-loop-i
overflow_add-i-in-loop-i c = omega (arith, read_count c.loop-i.invariant.0, c.loop-i-test.true)

pub loop-i-preserved : goal.loop-i-preserved
loop-i-preserved c =
    let l = c.loop-i in
    let ends = read_ends l.invariant.0 l.i l.invariant.1 in
    (l.invariant.0, omega (arith, c.loop-i-test.true), rw (add-one l.i) (omega (arith, ends.0, l.invariant.2, length_is (goal.at.loop-i-preserved c).After-element_in-e, c.if-rest-n.false)))

pub element_in-last-requires : goal.element_in-last-requires
element_in-last-requires c = let l = c.loop-i in let told = read_asks l.invariant.0 l.i l.invariant.1 in record { readable = told.0; r_bound = told.1 }

-- after the last element none comes, and T is its end
pub returns : goal.returns
unfolding own_stations
returns c =
    let o = (goal.at.returns c).At-loop-i in
    let l = c.loop-i in
    let r = l.invariant.0 in
    let end : suc l.i ≡ length (es o) = omega (arith, read_length r, l.invariant.1, c.loop-i-test.false) in
    let none : after o ≡ [] = drop_of_length-le (es o) {i = suc l.i} (omega arith) in
    let whole : total (take (suc l.i) (es o)) ≡ total (es o) = ap (λ (k : ℕ). total (take k (es o))) end ∙ ap total (take-length (es o)) in
    let within : l.rest ≤ (el o).length = omega (arith, (read_ends r l.i l.invariant.1).0, whole, l.invariant.2, c.requires.s_bound) in
    let told = answers o c.element_in-last.ensures (rw none (omega arith)) within in
    record { s_value = told.0; reachable = told.1 }
