-- `crest::crest_sighting_reading` meets its contract: the sighting is that of the numbers as they came.
use mathlib.Core.Path.{ap, ◌∙◌}
use Rattle.model.specs.declared.Sighting.{Sighting}
use Rattle.model.specs.Crest.{file_crest}
use Rattle.model.specs.Sightings.{sighted_to}
use Rattle.model.specs.Calls.{reading_call}
use Rattle.crest.proofs.Sighted.{sighting_came}
use Rattle.crest.proofs.crest_sighting_reading.Goals as goal

pub returns : goal.returns
returns c =
    let f = c.ranges in
    c.note_sighting.ensures
    ∙ ap (λ (x : Sighting). reading_call (sighted_to (file_crest c.args.crest.now) x) c.args.run.now)
    (c.sighting_of.ensures ∙ sighting_came f.station_x f.station_y f.backsight_c f.backsight_s f.angle_c f.angle_s f.distance)
