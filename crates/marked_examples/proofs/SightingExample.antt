-- The two examples of docs/RULES.md, chapter 10, computed.
use mathlib.Core.Path.{◌≡◌, refl, ap, ◌∙◌}
use lib.IntN.{pos}
use Rattle.model.specs.declared.Sighting.{Sighting}
use Rattle.model.specs.declared.Outcome.TheVariants.{Done}
use Rattle.model.specs.declared.Move.TheVariants.{By}
use Rattle.model.specs.Refusals.{verdict}
use Rattle.model.specs.Rounding.{ONE}
use Rattle.model.specs.Answers.{answer_after, answer_if, located_on}
use Rattle.model.specs.Readings.{from_located}
use Rattle.model.specs.Sightings.{turned_of, sighted_of, sight_rules, sighted_on, sighted_move_rules, sighted_move_question, sighted_move}
use Rattle.model.specs.Calls.{sighting_of}
use Rattle.model.proofs.Answers.{sighting_located}
use Rattle.marked_examples.specs.Examples.{point}
use Rattle.marked_examples.proofs.Examples.{elements_k}

-- ---- an instrument at (512, 0), a backsight along x, a quarter to the left, 300 grains: the point of example 1

unfoldable pub quarter_turn : Sighting
quarter_turn = sighting_of (pos 512) (pos 0) (pos ONE) (pos 0) (pos 0) (pos ONE) (pos 300)

quarter_taken : verdict (sight_rules quarter_turn) ≡ Done
unfolding verdict sight_rules quarter_turn
quarter_taken = refl

quarter_sighted : sighted_of quarter_turn ≡ point (pos 512) (pos 300)
unfolding sighted_of quarter_turn
quarter_sighted = refl

-- its answer on K is that of example 1
pub quarter_answered : sighted_on elements_k quarter_turn ≡ from_located (located_on elements_k (point (pos 512) (pos 300)))
quarter_answered = sighting_located elements_k quarter_turn quarter_taken ∙ ap (λ p. from_located (located_on elements_k p)) quarter_sighted

-- to the target (612, 0)
pub quarter_moved : sighted_move quarter_turn (point (pos 612) (pos 0)) ≡ By (pos 300) (pos 100)
unfolding answer_after answer_if sighted_move_question sighted_move_rules sight_rules quarter_turn
quarter_moved = refl

-- ---- an instrument at (1000, 2000), a backsight that goes 3 along x for 4 along y, an angle of 30 degrees, 123456 grains

unfoldable pub example_sighting : Sighting
example_sighting = sighting_of (pos 1000) (pos 2000) (pos 644245094) (pos 858993459) (pos 929887697) (pos 536870912) (pos 123456)

-- nothing of its own refuses it
pub example_taken : verdict (sight_rules example_sighting) ≡ Done
unfolding verdict sight_rules example_sighting
example_taken = refl

-- the direction from the instrument to the prism, some 83 degrees from x
pub example_turned : turned_of example_sighting ≡ record { x = pos 128435888; y = pos 1066032704 }
unfolding turned_of example_sighting
example_turned = refl

pub example_sighted : sighted_of example_sighting ≡ record { x = pos 15767; y = pos 124570 }
unfolding sighted_of example_sighting
example_sighted = refl

-- to the target (1300, 2600): forward, back to the instrument, and to the left
pub example_moved : sighted_move example_sighting (record { x = pos 1300; y = pos 2600 }) ≡ By (pos 122825) (pos 226)
unfolding answer_after answer_if sighted_move_question sighted_move_rules sight_rules example_sighting
example_moved = refl
