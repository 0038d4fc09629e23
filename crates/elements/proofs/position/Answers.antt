-- `elements::position` meets its contract: the point of what is reached at s.
use mathlib.Core.Path.{◌∙◌}
use Rattle.elements.specs.Reached.{of}
use Rattle.elements.proofs.Axes.{point_asks, point_is}
use Rattle.elements.proofs.position.Goals as goal

pub reach-requires : goal.reach-requires
reach-requires c = of _ _ c.requires.ready c.requires.s_le_length

pub point_at-requires : goal.point_at-requires
point_at-requires c = let told = point_asks _ (c.requires.ready, c.requires.s_le_length) c.reach.ensures in record { ready = told.0; near = told.1 }

pub returns : goal.returns
returns c = c.point_at.ensures ∙ point_is _ (c.requires.ready, c.requires.s_le_length) c.reach.ensures
