-- `comparisons::calls::sighted` meets its contract: the call gets the seven numbers as they are.
use borrow.Author.Rules.{rules}
use mathlib.Core.Path.{ap, ◌∙◌}
use Rattle.model.specs.declared.Sighting.{Sighting}
use Rattle.model.specs.Crest.{file_crest}
use Rattle.model.specs.Sightings.{sighted_to}
use Rattle.model.specs.Calls.{reading_call}
use Rattle.crest.proofs.Sighted.{sighting_came}
use Rattle.comparisons.proofs.calls.sighted.Goals as goal

pub returns : goal.returns
returns c =
    c.crest_sighting_reading.ensures
    ∙ ap (λ (k : Sighting). reading_call (sighted_to (file_crest c.args.crest.now) k) c.args.run.now)
    (sighting_came
    (search rules)
    (search rules)
    (search rules)
    (search rules)
    (search rules)
    (search rules)
    (search rules))
