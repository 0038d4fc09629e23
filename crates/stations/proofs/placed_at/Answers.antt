-- `stations::placed_at` meets its contract: the element's own position and direction at the mm from its start.
use mathlib.Core.Path.{sym, ap, ◌∙◌}
use Rattle.model.specs.declared.Element.{Element}
use Rattle.model.specs.Series.{position_on, tangent_on}
use Rattle.model.specs.Stations.{AtElement, position_at, tangent_at}
use Rattle.elements.specs.Reached.{placement_of}
use Rattle.elements.proofs.Preparing.{prepared_element}
use Rattle.stations.proofs.placed_at.Goals as goal

pub placed-requires : goal.placed-requires
placed-requires c =
    let e = prepared_element _ c.prepare.ensures.value in record { ready = c.prepare.ensures.ready; s_le_length = rw e c.element_of-at.ensures.reachable.1 }

pub returns : goal.returns
unfolding position_at tangent_at
returns c =
    let e = prepared_element _ c.prepare.ensures.value in
    let at = c.element_of-at in
    c.placed.ensures
    ∙ ap (λ (x : Element). placement_of (position_on x at.result.s) (tangent_on x at.result.s)) e
    ∙ ap (λ (x : AtElement). placement_of (position_on x.element x.s) (tangent_on x.element x.s)) (sym at.ensures.s_value)
