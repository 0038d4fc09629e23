-- `sightings::check` meets its contract: the four tests, of the numbers as they came, in the order of the rules.
use mathlib.Core.Path.{◌≡◌, sym, ap, ap₂, ◌∙◌}
use borrow.Author.Rules.{rules}
use mir.Facts.{to_z-of_z}
use mir.Syntax.{w32}
use Rattle.model.specs.Acceptance.{in_frame, is_unit}
use Rattle.model.specs.Sightings.{is_sight}
use Rattle.model.proofs.Answers.{told_outcome}
use Rattle.sightings.proofs.SightAnswers.{backsight_unit, angle_unit, place_framed, no_backsight, no_angle, no_place, no_distance, all_hold}
use Rattle.sightings.proofs.check.Goals.{After-is_pair-angle, After-is_pair-backsight, After-is_place-stands, After-is_sight-reached}
use Rattle.sightings.proofs.check.Goals as goal

-- ---- what each test says, of the numbers as they came

backsight_tested : (c : After-is_pair-backsight) → backsight_unit c.args.sighting ≡ c.is_pair-backsight.result
backsight_tested c = sym (c.is_pair-backsight.ensures ∙ ap₂ is_unit (to_z-of_z {w = w32} (search rules)) (to_z-of_z {w = w32} (search rules)))

angle_tested : (c : After-is_pair-angle) → angle_unit c.args.sighting ≡ c.is_pair-angle.result
angle_tested c = sym (c.is_pair-angle.ensures ∙ ap₂ is_unit (to_z-of_z {w = w32} (search rules)) (to_z-of_z {w = w32} (search rules)))

place_tested : (c : After-is_place-stands) → place_framed c.args.sighting ≡ c.is_place-stands.result
place_tested c = sym (c.is_place-stands.ensures ∙ ap₂ in_frame (to_z-of_z {w = w32} (search rules)) (to_z-of_z {w = w32} (search rules)))

distance_tested : (c : After-is_sight-reached) → is_sight c.args.sighting.distance ≡ c.is_sight-reached.result
distance_tested c = sym (c.is_sight-reached.ensures ∙ ap is_sight (to_z-of_z {w = w32} (search rules)))

-- ---- the returns

pub returns-then-not-backsight : goal.returns-then-not-backsight
returns-then-not-backsight c =
    let at = goal.at.returns-then-not-backsight c in
    let told = told_outcome _ (c.refused.ensures.value ∙ sym (no_backsight _ (backsight_tested at.After-is_pair-backsight ∙ c.if-not-backsight.true))) in
    record { value = told.0; paper = told.1 }

pub returns-then-not-angle : goal.returns-then-not-angle
returns-then-not-angle c =
    let at = goal.at.returns-then-not-angle c in
    let b = backsight_tested at.After-is_pair-backsight ∙ c.if-not-backsight.false in
    let told = told_outcome _ (c.refused-then-not-angle.ensures.value ∙ sym (no_angle _ b (angle_tested at.After-is_pair-angle ∙ c.if-not-angle.true))) in
    record { value = told.0; paper = told.1 }

pub returns-then-not-stands : goal.returns-then-not-stands
returns-then-not-stands c =
    let at = goal.at.returns-then-not-stands c in
    let b = backsight_tested at.After-is_pair-backsight ∙ c.if-not-backsight.false in
    let a = angle_tested at.After-is_pair-angle ∙ c.if-not-angle.false in
    let told = told_outcome _ (c.refused-then-not-stands.ensures.value ∙ sym (no_place _ b a (place_tested at.After-is_place-stands ∙ c.if-not-stands.true))) in
    record { value = told.0; paper = told.1 }

pub returns-then-not-reached : goal.returns-then-not-reached
returns-then-not-reached c =
    let at = goal.at.returns-then-not-reached c in
    let b = backsight_tested at.After-is_pair-backsight ∙ c.if-not-backsight.false in
    let a = angle_tested at.After-is_pair-angle ∙ c.if-not-angle.false in
    let p = place_tested at.After-is_place-stands ∙ c.if-not-stands.false in
    let told = told_outcome _ (c.refused-then-not-reached.ensures.value ∙ sym (no_distance _ b a p (distance_tested at.After-is_sight-reached ∙ c.if-not-reached.true))) in
    record { value = told.0; paper = told.1 }

pub returns : goal.returns
returns c =
    let at = goal.at.returns c in
    let b = backsight_tested at.After-is_pair-backsight ∙ c.if-not-backsight.false in
    let a = angle_tested at.After-is_pair-angle ∙ c.if-not-angle.false in
    let p = place_tested at.After-is_place-stands ∙ c.if-not-stands.false in
    let told = told_outcome _ (sym (all_hold _ b a p (distance_tested at.After-is_sight-reached ∙ c.if-not-reached.false))) in
    record { value = told.0; paper = told.1 }
