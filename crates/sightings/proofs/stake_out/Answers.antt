-- `sightings::stake_out` meets its contract: the sighting's own refusal, or the move back from its point.
use mathlib.Core.List.{[]}
use mathlib.Core.Path.{◌≡◌, sym, ap, ◌∙◌}
use borrow.Author.Rules.{rules}
use mir.Facts.{to_z-of_z}
use mir.Syntax.{w64}
use Rattle.integers.proofs.Held.{held}
use Rattle.model.specs.declared.Point.{Point}
use Rattle.model.specs.declared.Outcome.TheVariants.{Done}
use Rattle.model.specs.declared.Sighting.{Sighting}
use Rattle.model.specs.Refusals.{verdict}
use Rattle.model.specs.Sightings.{turned_of, sighted_of, sight_rules}
use Rattle.model.proofs.Answers.{told, sighted_move_tells}
use Rattle.sightings.proofs.SightAnswers.{refused_sight, placed_sight}
use Rattle.sightings.proofs.MoveAnswers.{move_refused, move_back, turned_faces}
use Rattle.sightings.proofs.stake_out.Goals.{In-At}
use Rattle.sightings.proofs.stake_out.Goals as goal

-- ---- the point and the direction, as they pass through 64 bits

module _ (c : In-At) where
  abbrev k : Sighting
  k = c.args.sighting

  holds : verdict (sight_rules k) ≡ Done
  holds = (placed_sight k (sym c.sight.ensures.value ∙ c.in-At.is)).0

  point : (record { x = c.in-At.x; y = c.in-At.y }) ≡ sighted_of k
  point = sym (placed_sight k (sym c.sight.ensures.value ∙ c.in-At.is)).1

  direction : (record { x = c.in-At.tx; y = c.in-At.ty }) ≡ turned_of k
  direction = sym (placed_sight k (sym c.sight.ensures.value ∙ c.in-At.is)).2

  x_came : held c.in-At.x ≡ (sighted_of k).x
  x_came = to_z-of_z {w = w64} (search rules) ∙ ap (λ (p : Point). p.x) point

  y_came : held c.in-At.y ≡ (sighted_of k).y
  y_came = to_z-of_z {w = w64} (search rules) ∙ ap (λ (p : Point). p.y) point

  tx_came : held c.in-At.tx ≡ (turned_of k).x
  tx_came = to_z-of_z {w = w64} (search rules) ∙ ap (λ (p : Point). p.x) direction

  ty_came : held c.in-At.ty ≡ (turned_of k).y
  ty_came = to_z-of_z {w = w64} (search rules) ∙ ap (λ (p : Point). p.y) direction

pub move_back-requires : goal.move_back-requires
move_back-requires c =
    let w = (goal.at.move_back-requires c).In-At in
    rw (tx_came w, ty_came w) (turned_faces (k w) c.args.target (holds w))

pub returns-in-Refused : goal.returns-in-Refused
returns-in-Refused c =
    let told = told (sighted_move_tells _ _) [] (sym (move_refused _ _ (refused_sight _ (sym c.sight.ensures.value ∙ c.in-Refused.is)))) in
    record { value = told.0; paper = told.1 }

pub returns-in-At : goal.returns-in-At
returns-in-At c =
    let w = (goal.at.returns-in-At c).In-At in
    let told = told (sighted_move_tells _ _) [] ((rw (x_came w, y_came w, tx_came w, ty_came w) at c.move_back.ensures) ∙ sym (move_back (k w) _ (holds w))) in
    record { value = told.0; paper = told.1 }
