-- `probes::probe_locate` meets its contract: the room first, then the point on the crest's bytes.
use mathlib.Core.Path.{◌≡◌, sym, ap, ◌∙◌, subst}
use Rattle.model.specs.declared.Point.{Point}
use Rattle.model.specs.declared.Located.{Located}
use Rattle.model.specs.Crest.{Crest, file_crest}
use Rattle.model.specs.Answers.{located}
use Rattle.codes.proofs.Casts.{as_came}
use Rattle.sources.proofs.Sound.{file_sound}
use Rattle.probes.specs.Replies.{reply_of_located, Sendable}
use Rattle.probes.specs.ProbeCalls.{four_size}
use Rattle.probes.proofs.Rooms.{locate_18, locate_call_sent, sent_as}
use Rattle.probes.proofs.Sent.{same_sendable, located_sendable}
use Rattle.probes.proofs.probe_locate.Goals.{After-locate, After-reply_of_located}
use Rattle.probes.proofs.probe_locate.Goals as goal

pub returns-then-out-ne-FOUR_SIZE : goal.returns-then-out-ne-FOUR_SIZE
returns-then-out-ne-FOUR_SIZE c =
    let a = c.args in
    sym (locate_18 (file_crest a.crest.now) a.out.now c.if-out-ne-FOUR_SIZE.true (record { x = a.x; y = a.y }))

module _ (c : After-locate) where
  abbrev crest : Crest
  crest = file_crest c.args.crest.now

  abbrev q : Point
  q = record { x = c.args.x; y = c.args.y }

  answered : c.locate.result ≡ located crest q
  answered = c.locate.ensures.value ∙ ap (located crest) (as_came c.ranges.x c.ranges.y c.point.ensures)

pub reply_of_located-requires : goal.reply_of_located-requires
reply_of_located-requires c =
    let k = (goal.at.reply_of_located-requires c).After-locate in
    subst (λ (a : Located). Sendable four_size (reply_of_located a)) (sym (answered k)) (located_sendable (crest k) (file_sound _) (q k))

reply : (c : After-reply_of_located) → let k = (goal.at.After-reply_of_located c).After-locate in c.reply_of_located.result ≡ reply_of_located (located (crest k) (q k))
reply c = c.reply_of_located.ensures ∙ ap reply_of_located (answered (goal.at.After-reply_of_located c).After-locate)

pub send-requires : goal.send-requires
send-requires c =
    let k = (goal.at.send-requires c).After-locate in
    same_sendable c.if-out-ne-FOUR_SIZE.false (reply (goal.at.send-requires c).After-reply_of_located) (located_sendable (crest k) (file_sound _) (q k))

pub returns : goal.returns
returns c =
    let k = (goal.at.returns c).After-locate in
    let room = c.args.out.now in
    sent_as room c.send.ensures.value c.send.ensures.room_after (reply (goal.at.returns c).After-reply_of_located) ∙ sym (locate_call_sent (crest k) room c.if-out-ne-FOUR_SIZE.false (q k))
