-- `crest::crest_sighting_stake_out` meets its contract: the room first, then the move of the sighting as it came.
use Prim.Native.Nat.{ℕ}
use mathlib.Core.List.{List}
use mathlib.Core.Path.{◌≡◌, sym, ap, ap₂, ◌∙◌, subst}
use Rattle.model.specs.declared.Point.{Point}
use Rattle.model.specs.declared.Sighting.{Sighting}
use Rattle.model.specs.declared.Move.{Move}
use Rattle.model.specs.Answers.{code, paper_of_move}
use Rattle.model.specs.Sightings.{sighted_move}
use Rattle.model.specs.Calls.{move_bytes, sighting_of}
use Rattle.codes.specs.Codes.{Movable}
use Rattle.codes.proofs.Casts.{as_came}
use Rattle.crest.proofs.StakeCalls.{sighted_18, sighted_answered, sighted_movable}
use Rattle.crest.proofs.Sighted.{sighting_came}
use borrow.Author.Rules.{rules}
use Rattle.crest.proofs.crest_sighting_stake_out.Goals.{After-stake_out-answer, Start}
use Rattle.crest.proofs.crest_sighting_stake_out.Goals as goal

module _ (s : Start) where
  abbrev sighting : Sighting
  sighting = sighting_of s.args.station_x s.args.station_y s.args.backsight_c s.args.backsight_s s.args.angle_c s.args.angle_s s.args.distance

  abbrev target : Point
  target = record { x = s.args.target_x; y = s.args.target_y }

  abbrev room : List ℕ
  room = s.args.move_bytes.now

pub returns-then-room-ne-MOVE_SIZE : goal.returns-then-room-ne-MOVE_SIZE
returns-then-room-ne-MOVE_SIZE c =
    let s = (goal.at.returns-then-room-ne-MOVE_SIZE c).Start in
    sym (sighted_18 (sighting s) (target s) (room s) c.if-room-ne-MOVE_SIZE.true)

module _ (c : After-stake_out-answer) where
  abbrev start : Start
  start = (goal.at.After-stake_out-answer c).Start

  moved : c.stake_out-answer.result ≡ sighted_move (sighting start) (target start)
  moved =
      let f = c.ranges in
      c.stake_out-answer.ensures.value
      ∙ ap₂ (λ (k : Sighting) (p : Point). sighted_move k p) (c.sighting_of-sighting.ensures ∙ sighting_came f.station_x f.station_y f.backsight_c f.backsight_s f.angle_c f.angle_s f.distance) (as_came f.target_x f.target_y c.point.ensures)

pub answer_move-requires : goal.answer_move-requires
answer_move-requires c =
    let k = (goal.at.answer_move-requires c).After-stake_out-answer in
    record { room_len = search rules; movable = subst Movable (sym (moved k)) (sighted_movable (sighting (start k)) (target (start k))) }

pub returns : goal.returns
returns c =
    let k = (goal.at.returns c).After-stake_out-answer in
    let s = start k in
    ap₂ (λ (r : ℕ) (l : List ℕ). (r, l)) (c.answer_move.ensures.value ∙ ap (λ (x : Move). code (paper_of_move x)) (moved k)) (c.answer_move.ensures.room_after ∙ ap (λ (x : Move). move_bytes x (room s)) (moved k))
    ∙ sym (sighted_answered (sighting s) (target s) (room s) c.if-room-ne-MOVE_SIZE.false)
