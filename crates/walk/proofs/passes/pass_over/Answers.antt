-- `walk::passes::pass_over` meets its contract. The invariant: what is left of the pass, from what is seen, is the whole, and the next element begins where those before it end.
use mathlib.Core.Bool.{cond}
use mathlib.Core.List.{List}
use mathlib.Core.Path.{◌≡◌, refl, sym, ◌∙◌, ap}
use Prim.Native.Nat.{ℕ, suc, ◌+◌, ◌≤◌}
use native.Mathlib.Omega.{arith}
use native.Mathlib.Numerals.{add-one}
use lib.Dec.{eqb}
use lib.ListN.{length, take, drop, length-drop}
use Rattle.model.specs.declared.Element.{Element}
use Rattle.model.specs.Acceptance.{longest_alignment}
use Rattle.model.specs.Accepted.{Accepted}
use Rattle.model.specs.Stations.{total}
use Rattle.model.specs.Walk.{own_stations}
use Rattle.model.proofs.Accepted.{numbers}
use Rattle.elements.proofs.Preparing.{prepared_element}
use Rattle.sources.specs.Sources.{elements_lent}
use Rattle.sources.proofs.RecordsRead.{element_in, read_asks, read_at, read_length, read_count, read_accepted}
use Rattle.stations.proofs.StationTotal.{read_ends}
use Rattle.walk_laws.proofs.Own.{own_between}
use Rattle.walk.specs.Search.{countable_before_element, on_element, pass_on}
use Rattle.walk.proofs.Passing.{own_is, left_start, left_step, left_done}
use Rattle.walk.proofs.passes.pass_over.Goals.{After-prepare-p, In-loop-i}
use Rattle.walk.proofs.passes.pass_over.Goals as goal

-- the element of this turn, with those after it
module _ (c : In-loop-i) where
  abbrev es : List Element
  es = elements_lent c.args.form c.args.crest c.args.amendment

  abbrev el : Element
  el = element_in c.args.form c.args.crest.now c.args.amendment.now c.loop-i.i

  abbrev rest : List Element
  rest = drop (suc c.loop-i.i) es

  accepted : Accepted el
  accepted = read_accepted c.loop-i.invariant.0 c.loop-i.i c.loop-i-test.true

  -- where it ends
  ends : (total (take (suc c.loop-i.i) es) ≡ c.loop-i.start + el.length) × (c.loop-i.start + el.length ≤ longest_alignment)
  ends =
      let l = c.loop-i in
      let e = read_ends l.invariant.0 l.i c.loop-i-test.true in
      (omega (arith, e.0, l.invariant.2), omega (arith, e.1, l.invariant.2))

  after : c.loop-i.i + 1 + length rest ≡ c.count_in-count.result
  after = let l = c.loop-i in omega (arith, length-drop (suc l.i) es, read_length l.invariant.0, c.loop-i-test.true)

  -- the element's own stations
  own : {n r : ℕ} → n ≡ el.length → r ≡ cond (eqb (c.loop-i.i + 1) c.count_in-count.result) (n + 1) n → r ≡ own_stations el rest
  own e h = rw e at h ∙ sym (own_is el rest c.loop-i.i c.count_in-count.result after)

module _ (c : After-prepare-p) where
  element_is : c.prepare-p.result.element ≡ element_in c.args.form c.args.crest.now c.args.amendment.now c.loop-i.i
  element_is = prepared_element c.element_in.result c.prepare-p.ensures.value ∙ c.element_in.ensures

  length_is : c.prepare-p.result.element.length ≡ (element_in c.args.form c.args.crest.now c.args.amendment.now c.loop-i.i).length
  length_is = ap (λ (e : Element). e.length) element_is

pub count_in-count-requires : goal.count_in-count-requires
count_in-count-requires c = c.requires.source_accepted.readable

pub loop-i-init : goal.loop-i-init
unfolding total
loop-i-init c = (record { source = c.requires.source_accepted; all = c.count_in-count.ensures }, omega arith, refl, left_start)

pub element_in-requires : goal.element_in-requires
element_in-requires c = let told = read_asks c.loop-i.invariant.0 c.loop-i.i c.loop-i-test.true in record { readable = told.0; r_bound = told.1 }

pub prepare-p-requires : goal.prepare-p-requires
prepare-p-requires c = rw c.element_in.ensures (accepted (goal.at.prepare-p-requires c).In-loop-i)

pub overflow_add-i : goal.overflow_add-i
overflow_add-i c = omega (arith, read_count c.loop-i.invariant.0, c.loop-i-test.true)

pub own_of-own-requires : goal.own_of-own-requires
own_of-own-requires c = omega (arith, length_is (goal.at.own_of-own-requires c).After-prepare-p, (numbers (accepted (goal.at.own_of-own-requires c).In-loop-i)).longest)

pub pass_on-v-requires : goal.pass_on-v-requires
pass_on-v-requires c =
    let o = (goal.at.pass_on-v-requires c).In-loop-i in
    let same = length_is (goal.at.pass_on-v-requires c).After-prepare-p in
    let l = c.loop-i in
    let end = (ends o).1 in
    let left = l.invariant.3 in
    let begun = c.requires.best_le_unreached in
    let few : l.v.visits ≤ countable_before_element = omega (arith, left.visits, begun.1, l.invariant.2, end, (read_count l.invariant.0).1, c.loop-i-test.true) in
    record {
      passable = record {
        ready = c.prepare-p.ensures.ready;
        frame = c.requires.in_frame;
        short = omega (arith, own o same c.own_of-own.ensures, own_between (el o) (rest o), same);
        long = omega (arith, (numbers (accepted o)).longest, same);
        early = omega (arith, end);
        best = omega (arith, left.best, begun.0);
        visits = omega (arith, few);
      };
      visits_le_countable_before_element = few;
    }

pub overflow_add-i-in-loop-i : goal.overflow_add-i-in-loop-i
overflow_add-i-in-loop-i c = omega (arith, read_count c.loop-i.invariant.0, c.loop-i-test.true)

pub overflow_add-start : goal.overflow_add-start
overflow_add-start c = omega (arith, length_is (goal.at.overflow_add-start c).After-prepare-p, (ends (goal.at.overflow_add-start c).In-loop-i).1)

pub loop-i-preserved : goal.loop-i-preserved
loop-i-preserved c =
    let o = (goal.at.loop-i-preserved c).In-loop-i in
    let p = (goal.at.loop-i-preserved c).After-prepare-p in
    let l = c.loop-i in
    let seen : c.pass_on-v.result ≡ pass_on c.args.pass (on_element (el o) (total (take l.i (es o))) c.args.q) (el o).length (own_stations (el o) (rest o)) (total (take l.i (es o))) l.v
    = rw (l.invariant.2, element_is p, own o (length_is p) c.own_of-own.ensures) at c.pass_on-v.ensures in (
      l.invariant.0,
      omega (arith, c.loop-i-test.true),
      rw (add-one l.i) (omega (arith, (ends o).0, length_is p)),
      left_step l.invariant.3 (read_at l.invariant.0 l.i c.loop-i-test.true) seen,
    )

pub returns : goal.returns
returns c = let l = c.loop-i in left_done l.invariant.3 (omega (arith, c.loop-i-test.false, read_length l.invariant.0))
