-- `crest::crest_stake_out` meets its contract: the room first, then the move between the points as they came.
use Prim.Native.Nat.{ℕ}
use mathlib.Core.List.{List}
use mathlib.Core.Path.{◌≡◌, sym, ap, ap₂, ◌∙◌, subst}
use lib.IntN.{ℤ}
use Rattle.model.specs.declared.Point.{Point}
use Rattle.model.specs.declared.Move.{Move}
use Rattle.model.specs.Answers.{code, paper_of_move, stake_out}
use Rattle.model.specs.Calls.{move_bytes}
use Rattle.codes.specs.Codes.{Movable}
use Rattle.integers.proofs.Held.{wide_fits, widened}
use Rattle.codes.proofs.Casts.{as_came}
use Rattle.crest.proofs.StakeCalls.{stake_18, stake_answered, stake_movable}
use borrow.Author.Rules.{rules}
use Rattle.crest.proofs.crest_stake_out.Goals.{After-stake_out-answer, Start}
use Rattle.crest.proofs.crest_stake_out.Goals as goal

same_stake : {own own' target target' : Point} {x x' y y' : ℤ} → own ≡ own' → target ≡ target' → x ≡ x' → y ≡ y' → stake_out own target x y ≡ stake_out own' target' x' y'
same_stake o t e f = cc

module _ (s : Start) where
  abbrev own : Point
  own = record { x = s.args.own_x; y = s.args.own_y }

  abbrev target : Point
  target = record { x = s.args.target_x; y = s.args.target_y }

pub returns-then-move_bytes-ne-MOVE_SIZE : goal.returns-then-move_bytes-ne-MOVE_SIZE
returns-then-move_bytes-ne-MOVE_SIZE c =
    let s = (goal.at.returns-then-move_bytes-ne-MOVE_SIZE c).Start in
    sym (stake_18 (own s) (target s) c.args.heading_c c.args.heading_s c.args.move_bytes.now c.if-move_bytes-ne-MOVE_SIZE.true)

pub overflow_cast-heading_c : goal.overflow_cast-heading_c
overflow_cast-heading_c c = wide_fits c.args.heading_c c.ranges.heading_c

pub overflow_cast-heading_s : goal.overflow_cast-heading_s
overflow_cast-heading_s c = wide_fits c.args.heading_s c.ranges.heading_s

module _ (c : After-stake_out-answer) where
  abbrev start : Start
  start = (goal.at.After-stake_out-answer c).Start

  moved : c.stake_out-answer.result ≡ stake_out (own start) (target start) c.args.heading_c c.args.heading_s
  moved =
      let f = c.ranges in
      c.stake_out-answer.ensures.value
      ∙ same_stake (as_came f.own_x f.own_y c.point.ensures) (as_came f.target_x f.target_y c.point-2.ensures) (widened c.args.heading_c f.heading_c) (widened c.args.heading_s f.heading_s)

pub answer_move-requires : goal.answer_move-requires
answer_move-requires c =
    let k = (goal.at.answer_move-requires c).After-stake_out-answer in
    let s = start k in
    record { room_len = search rules; movable = subst Movable (sym (moved k)) (stake_movable (own s) (target s) c.args.heading_c c.args.heading_s) }

pub returns : goal.returns
returns c =
    let k = (goal.at.returns c).After-stake_out-answer in
    let s = start k in
    let room = c.args.move_bytes.now in
    ap₂ (λ (r : ℕ) (l : List ℕ). (r, l)) (c.answer_move.ensures.value ∙ ap (λ (x : Move). code (paper_of_move x)) (moved k)) (c.answer_move.ensures.room_after ∙ ap (λ (x : Move). move_bytes x room) (moved k))
    ∙ sym (stake_answered (own s) (target s) c.args.heading_c c.args.heading_s room c.if-move_bytes-ne-MOVE_SIZE.false)
