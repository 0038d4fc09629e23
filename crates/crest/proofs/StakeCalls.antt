-- The calls of a move: 18 for room of another size, then what the question of the move gives, which its 8 bytes hold.
use Prim.Native.Nat.{ℕ}
use native.Mathlib.Omega.{arith}
use mathlib.Core.List.{List, [], ◌∷◌}
use mathlib.Core.Path.{◌≡◌, ap}
use lib.Dec.{eqb}
use lib.IntN.{ℤ}
use lib.ListN.{length}
use borrow.Author.Tests.{eq-eqb, ne_eqb}
use Rattle.integers.proofs.Ranges.{fits_below}
use Rattle.model.specs.declared.Point.{Point}
use Rattle.model.specs.declared.Sighting.{Sighting}
use Rattle.model.specs.declared.Outcome.TheVariants.{Refused}
use Rattle.model.specs.declared.Move.{Move}
use Rattle.model.specs.declared.Move.TheVariants.{Refused as MoveRefused}
use Rattle.model.specs.Refusals.{rule₀, wrong_room, refusal, or_refused, verdict}
use Rattle.model.specs.Answers.{code, Question, answer_after, answer_of, move_question, stake_out, paper_of_move}
use Rattle.model.specs.Sightings.{sighted_move_question, sighted_move}
use Rattle.model.specs.Calls.{move_bytes, move_call, stake_out_call, sighting_stake_out_call}
use Rattle.model.proofs.Answers.{Tells, told_refused, move_tells, sighted_move_tells}
use Rattle.crestfile.proofs.Placed.{none_placed}
use Rattle.stakes.proofs.StakeAnswers.{move_small}
use Rattle.sightings.proofs.MoveAnswers.{sighted_move_small}
use Rattle.codes.specs.Codes.{Movable}
use Rattle.codes.proofs.QuestionCodes.{question_codable}

-- ---- of any question whose answer is a move

module _ (q : Question Move) (room : List ℕ) where
  move_18 : Tells MoveRefused paper_of_move q → (length room ≡ 8 → ⊥) → move_call q room ≡ (18, room)
  unfolding move_call verdict or_refused refusal code paper_of_move move_bytes
  move_18 tells h =
      let no_room : verdict (rule₀ wrong_room (eqb (length room) 8) ∷ []) ≡ Refused (record { number = 18; place = 0 }) = rw (ne_eqb (length room) 8 h) in
      ap (λ m. (code (paper_of_move m), move_bytes m room)) (told_refused tells (rule₀ wrong_room (eqb (length room) 8) ∷ []) no_room)

  move_answered : length room ≡ 8 → move_call q room ≡ (code (paper_of_move (answer_of q)), move_bytes (answer_of q) room)
  unfolding move_call answer_after verdict or_refused
  move_answered h = rw (eq-eqb (length room) 8 h)

-- ---- of a stake-out

module _ (own target : Point) (c s : ℤ) where
  pub stake_18 : (room : List ℕ) → (length room ≡ 8 → ⊥) → stake_out_call own target c s room ≡ (18, room)
  unfolding stake_out_call
  stake_18 room h = move_18 (move_question own target c s) room (move_tells own target c s) h

  pub stake_answered : (room : List ℕ) → length room ≡ 8 → stake_out_call own target c s room ≡ (code (paper_of_move (stake_out own target c s)), move_bytes (stake_out own target c s) room)
  unfolding stake_out_call
  stake_answered room h = move_answered (move_question own target c s) room h

  pub stake_movable : Movable (stake_out own target c s)
  stake_movable =
      record {
        coded = question_codable (move_tells own target c s) [] none_placed;
        values = λ e. let m = move_small own target c s e in (fits_below (omega (arith, m.0)), fits_below (omega (arith, m.1)));
      }

-- ---- of a sighting

module _ (k : Sighting) (target : Point) where
  pub sighted_18 : (room : List ℕ) → (length room ≡ 8 → ⊥) → sighting_stake_out_call k target room ≡ (18, room)
  unfolding sighting_stake_out_call
  sighted_18 room h = move_18 (sighted_move_question k target) room (sighted_move_tells k target) h

  pub sighted_answered : (room : List ℕ) → length room ≡ 8 → sighting_stake_out_call k target room ≡ (code (paper_of_move (sighted_move k target)), move_bytes (sighted_move k target) room)
  unfolding sighting_stake_out_call
  sighted_answered room h = move_answered (sighted_move_question k target) room h

  pub sighted_movable : Movable (sighted_move k target)
  sighted_movable =
      record {
        coded = question_codable (sighted_move_tells k target) [] none_placed;
        values = λ e. let m = sighted_move_small k target e in (fits_below (omega (arith, m.0)), fits_below (omega (arith, m.1)));
      }
