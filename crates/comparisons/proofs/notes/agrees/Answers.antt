-- `comparisons::notes::agrees` meets its contract: a case for each sort of call.
use mathlib.Core.Path.{ap, ◌∙◌}
use native.Mathlib.Omega.{arith}
use Rattle.std.proofs.lemmas.Bool.Decides.{nat_tests}
use Rattle.model.specs.declared.Observation.{Observation}
use Rattle.model.specs.Crest.{file_crest}
use Rattle.model.specs.Sightings.{observed_to}
use Rattle.comparisons.specs.Notes.{acknowledged_told, noted_told, note_agrees}
use Rattle.comparisons.proofs.notes.agrees.Goals as goal

pub returns-in-0 : goal.returns-in-0
unfolding note_agrees
returns-in-0 c =
    rw c.in-0.is
    (c.noted.ensures ∙ ap (λ (o : Observation). noted_told c.args.row.now (observed_to (file_crest c.args.crest.now) o) c.args.run) c.plane.ensures)

pub returns-in-1 : goal.returns-in-1
unfolding note_agrees
returns-in-1 c =
    rw c.in-1.is
    (c.noted-in-1.ensures ∙ ap (λ (o : Observation). noted_told c.args.row.now (observed_to (file_crest c.args.crest.now) o) c.args.run) c.line.ensures)

pub returns-in-2 : goal.returns-in-2
unfolding note_agrees
returns-in-2 c =
    rw c.in-2.is (c.acknowledged.ensures ∙ ap (acknowledged_told c.args.row.now) c.acknowledge.ensures)

pub returns-in-3 : goal.returns-in-3
unfolding note_agrees
returns-in-3 c =
    rw c.in-3.is
    (c.noted-in-3.ensures ∙ ap (λ (o : Observation). noted_told c.args.row.now (observed_to (file_crest c.args.crest.now) o) c.args.run) c.sighted.ensures)

pub returns-in_default : goal.returns-in_default
unfolding note_agrees
returns-in_default c = grind (arith, nat_tests)
