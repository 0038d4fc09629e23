-- `comparisons::displays::agrees` meets its contract: a case for each sort of reading.
use mathlib.Core.Path.{ap, ◌∙◌}
use native.Mathlib.Omega.{arith}
use Rattle.std.proofs.lemmas.Bool.Decides.{nat_tests}
use Rattle.model.specs.declared.Observation.{Observation}
use Rattle.model.specs.Crest.{file_crest}
use Rattle.model.specs.Readings.{display_of}
use Rattle.model.specs.Sightings.{observed_to}
use Rattle.comparisons.specs.Notes.{display_is_at, display_agrees}
use Rattle.comparisons.proofs.displays.agrees.Goals as goal

pub returns-in-0 : goal.returns-in-0
unfolding display_agrees
returns-in-0 c =
    rw c.in-0.is
    (c.same_display.ensures ∙ ap (display_is_at c.args.row.now 24) (c.display.ensures ∙ ap (λ (o : Observation). display_of (observed_to (file_crest c.args.crest.now) o)) c.plane.ensures))

pub returns-in-1 : goal.returns-in-1
unfolding display_agrees
returns-in-1 c =
    rw c.in-1.is
    (c.same_display-in-1.ensures ∙ ap (display_is_at c.args.row.now 24) (c.display-in-1.ensures ∙ ap (λ (o : Observation). display_of (observed_to (file_crest c.args.crest.now) o)) c.line.ensures))

pub returns-in-3 : goal.returns-in-3
unfolding display_agrees
returns-in-3 c =
    rw c.in-3.is
    (c.same_display-in-3.ensures ∙ ap (display_is_at c.args.row.now 24) (c.display-in-3.ensures ∙ ap (λ (o : Observation). display_of (observed_to (file_crest c.args.crest.now) o)) c.sighted.ensures))

pub returns-in_default : goal.returns-in_default
unfolding display_agrees
returns-in_default c = grind (arith, nat_tests)
