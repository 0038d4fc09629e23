-- `walk::passes::end_on` meets its contract, by whether T is an own station of the element and no multiple of 1000.
use mathlib.Core.Path.{◌∙◌}
use Rattle.walk.proofs.Seeing.{end_not_own, end_multiple, end_visited, on_element_at}
use Rattle.walk.proofs.passes.end_on.Goals as goal

pub returns-then-own-n : goal.returns-then-own-n
returns-then-own-n c = end_not_own _ _ _ _ _ c.if-own-n.true

pub returns-then-t-eq0 : goal.returns-then-t-eq0
returns-then-t-eq0 c = end_multiple _ _ _ _ _ c.if-own-n.false c.if-t-eq0.true

pub returns : goal.returns
returns c =
    let near = c in
    end_visited _ _ _ _ _ _ _ near.if-own-n.false near.if-t-eq0.false (near.distance.ensures ∙ on_element_at _ _ _ _) c.seen.ensures
