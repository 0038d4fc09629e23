-- `probes::probe_position` meets its contract: the room first, then the station on the crest's bytes.
use mathlib.Core.Path.{◌≡◌, sym, ap, ◌∙◌}
use lib.IntN.{ℤ, pos}
use mir.Syntax.{w64}
use mir.ValLaws.{to_z_pos}
use Rattle.model.specs.Crest.{Crest, file_crest}
use Rattle.model.specs.Answers.{placed}
use Rattle.sources.proofs.Sound.{file_sound}
use Rattle.probes.specs.Replies.{reply_of_placed}
use Rattle.probes.proofs.Rooms.{position_18, position_call_sent, sent_as}
use Rattle.probes.proofs.Sent.{same_sendable, placed_sendable}
use borrow.Author.Rules.{rules}
use Rattle.probes.proofs.probe_position.Goals.{After-reply_of_placed, Else-out-ne-FOUR_SIZE}
use Rattle.probes.proofs.probe_position.Goals as goal

pub overflow_cast-station : goal.overflow_cast-station
overflow_cast-station c = search rules

pub returns-then-out-ne-FOUR_SIZE : goal.returns-then-out-ne-FOUR_SIZE
returns-then-out-ne-FOUR_SIZE c =
    let a = c.args in
    sym (position_18 (file_crest a.crest.now) a.out.now c.if-out-ne-FOUR_SIZE.true (pos a.station))

module _ (c : After-reply_of_placed) where
  abbrev test : Else-out-ne-FOUR_SIZE
  test = (goal.at.After-reply_of_placed c).Else-out-ne-FOUR_SIZE

  abbrev crest : Crest
  crest = file_crest c.args.crest.now

  abbrev station : ℤ
  station = pos c.args.station

  reply : c.reply_of_placed.result ≡ reply_of_placed (placed crest station)
  reply = c.reply_of_placed.ensures ∙ ap reply_of_placed (c.position.ensures.value ∙ ap (placed crest) (to_z_pos w64 c.args.station (overflow_cast-station test).sfits))

pub send-requires : goal.send-requires
send-requires c =
    let r = (goal.at.send-requires c).After-reply_of_placed in
    same_sendable c.if-out-ne-FOUR_SIZE.false (reply r) (placed_sendable (crest r) (file_sound _) (station r))

pub returns : goal.returns
returns c =
    let r = (goal.at.returns c).After-reply_of_placed in
    let room = c.args.out.now in
    sent_as room c.send.ensures.value c.send.ensures.room_after (reply r) ∙ sym (position_call_sent (crest r) room c.if-out-ne-FOUR_SIZE.false (station r))
