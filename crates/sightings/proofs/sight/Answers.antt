-- `sightings::sight` meets its contract: the sighting's own refusal, or its point and direction.
use mathlib.Core.List.{[]}
use mathlib.Core.Path.{sym, ◌∙◌}
use Rattle.model.proofs.Answers.{told, sight_tells}
use Rattle.sightings.proofs.SightAnswers.{sightable, sight_refused, sight_placed}
use Rattle.sightings.proofs.sight.Goals as goal

pub placed-requires : goal.placed-requires
placed-requires c = sightable _ (sym c.check.ensures.value ∙ c.in-Done.is)

pub returns-in-Refused : goal.returns-in-Refused
returns-in-Refused c = let told = told (sight_tells _) [] (sym (sight_refused _ (sym c.check.ensures.value ∙ c.in-Refused.is))) in record { value = told.0; paper = told.1 }

pub returns-in-Done : goal.returns-in-Done
returns-in-Done c =
    let told = told (sight_tells _) [] (c.placed.ensures ∙ sym (sight_placed _ (sym c.check.ensures.value ∙ c.in-Done.is))) in record { value = told.0; paper = told.1 }
