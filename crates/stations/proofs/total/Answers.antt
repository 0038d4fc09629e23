-- `stations::total` meets its contract: what is summed is T of the elements before.
use Prim.Native.Nat.{ℕ, suc, ◌+◌, ◌≤◌}
use mathlib.Core.List.{List}
use mathlib.Core.Path.{◌≡◌, refl, ap, ◌∙◌}
use native.Mathlib.Omega.{arith}
use native.Mathlib.Numerals.{add-one}
use lib.ListN.{length, take}
use lib.Seq.{take-length}
use Rattle.model.specs.declared.Element.{Element}
use Rattle.model.specs.Acceptance.{longest_alignment}
use Rattle.model.specs.Stations.{total}
use Rattle.sources.specs.Sources.{elements_lent}
use Rattle.sources.proofs.RecordsRead.{read_asks, read_length, read_count}
use Rattle.stations.proofs.StationTotal.{read_ends, read_total}
use Rattle.stations.proofs.total.Goals.{After-element_in-e, Start}
use Rattle.stations.proofs.total.Goals as goal

abbrev es : Start → List Element
es c = let a = c.args in elements_lent a.form a.crest a.amendment

pub count_in-count-requires : goal.count_in-count-requires
count_in-count-requires c = c.requires.readable

pub loop-i-init : goal.loop-i-init
unfolding total
loop-i-init c = (record { source = c.requires; all = c.count_in-count.ensures }, omega arith, refl)

pub element_in-e-requires : goal.element_in-e-requires
element_in-e-requires c = let told = read_asks c.loop-i.invariant.0 c.loop-i.i c.loop-i-test.true in record { readable = told.0; r_bound = told.1 }

-- the element of this turn ends where the next begins
ends : (c : After-element_in-e) →
    let l = c.loop-i in
    let end = l.t + c.element_in-e.result.length in
    (end ≡ total (take (suc l.i) (elements_lent c.args.form c.args.crest c.args.amendment))) × (end ≤ longest_alignment)
ends c =
    let l = c.loop-i in
    let e = read_ends l.invariant.0 l.i c.loop-i-test.true in
    let n = ap (λ (e : Element). e.length) c.element_in-e.ensures in
    (omega (arith, e.0, n, l.invariant.2), omega (arith, e.1, n, l.invariant.2))

pub overflow_add-t : goal.overflow_add-t
overflow_add-t c = omega (arith, (ends (goal.at.overflow_add-t c).After-element_in-e).1)

pub overflow_add-i : goal.overflow_add-i
overflow_add-i c = omega (arith, read_count c.loop-i.invariant.0, c.loop-i-test.true)

pub loop-i-preserved : goal.loop-i-preserved
loop-i-preserved c =
    let l = c.loop-i in
    (l.invariant.0, omega (arith, c.loop-i-test.true), rw (add-one l.i) (ends (goal.at.loop-i-preserved c).After-element_in-e).0)

pub returns : goal.returns
returns c =
    let s = (goal.at.returns c).Start in
    let l = c.loop-i in
    let end : l.i ≡ length (es s) = omega (arith, l.invariant.1, c.loop-i-test.false, read_length l.invariant.0) in
    let t : l.t ≡ total (es s) = l.invariant.2 ∙ ap (λ (k : ℕ). total (take k (es s))) end ∙ ap total (take-length (es s)) in
    (t, omega (arith, t, read_total l.invariant.0))
