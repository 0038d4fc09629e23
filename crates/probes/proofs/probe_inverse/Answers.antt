-- `probes::probe_inverse` meets its contract: the room first, then the station and the offset on the crest's bytes.
use mathlib.Core.Path.{◌≡◌, sym, ap, ap₂, ◌∙◌}
use lib.IntN.{ℤ, pos}
use mir.Syntax.{w64}
use mir.ValLaws.{to_z_pos}
use Rattle.model.specs.Crest.{Crest, file_crest}
use Rattle.model.specs.Answers.{inverse}
use Rattle.integers.proofs.Held.{wide_fits, widened}
use Rattle.sources.proofs.Sound.{file_sound}
use Rattle.probes.specs.Replies.{reply_of_inverse}
use Rattle.probes.proofs.Rooms.{inverse_18, inverse_call_sent, sent_as}
use Rattle.probes.proofs.Sent.{same_sendable, inverse_sendable}
use borrow.Author.Rules.{rules}
use Rattle.probes.proofs.probe_inverse.Goals.{After-reply_of_inverse, Else-out-ne-TWO_SIZE}
use Rattle.probes.proofs.probe_inverse.Goals as goal

pub overflow_cast-station : goal.overflow_cast-station
overflow_cast-station c = search rules

pub returns-then-out-ne-TWO_SIZE : goal.returns-then-out-ne-TWO_SIZE
returns-then-out-ne-TWO_SIZE c =
    let a = c.args in
    sym (inverse_18 (file_crest a.crest.now) a.out.now c.if-out-ne-TWO_SIZE.true (pos a.station) a.offset)

pub overflow_cast-offset : goal.overflow_cast-offset
overflow_cast-offset c = wide_fits c.args.offset c.ranges.offset

module _ (c : After-reply_of_inverse) where
  abbrev test : Else-out-ne-TWO_SIZE
  test = (goal.at.After-reply_of_inverse c).Else-out-ne-TWO_SIZE

  abbrev crest : Crest
  crest = file_crest c.args.crest.now

  abbrev station : ℤ
  station = pos c.args.station

  abbrev offset : ℤ
  offset = c.args.offset

  reply : c.reply_of_inverse.result ≡ reply_of_inverse (inverse crest station offset)
  reply =
      c.reply_of_inverse.ensures
      ∙ ap reply_of_inverse (c.inverse.ensures.value ∙ ap₂ (λ (s w : ℤ). inverse crest s w) (to_z_pos w64 c.args.station (overflow_cast-station test).sfits) (widened offset c.ranges.offset))

pub send-requires : goal.send-requires
send-requires c =
    let r = (goal.at.send-requires c).After-reply_of_inverse in
    same_sendable c.if-out-ne-TWO_SIZE.false (reply r) (inverse_sendable (crest r) (file_sound _) (station r) (offset r))

pub returns : goal.returns
returns c =
    let r = (goal.at.returns c).After-reply_of_inverse in
    let room = c.args.out.now in
    sent_as room c.send.ensures.value c.send.ensures.room_after (reply r) ∙ sym (inverse_call_sent (crest r) room c.if-out-ne-TWO_SIZE.false (station r) (offset r))
