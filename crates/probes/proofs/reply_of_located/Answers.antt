-- `probes::reply_of_located` meets its contract: a case for each answer, whose station and count fit a signed number.
use mathlib.Core.Path.{subst}
use mir.Syntax.{w32, w64}
use mir.Facts.{sfits_widen}
use mir.ValLaws.{to_z-of_z, to_z_pos}
use Rattle.model.specs.declared.Located.{Located}
use borrow.Author.Rules.{rules}
use Rattle.probes.specs.Replies.{reply_of_located, Sendable}
use Rattle.probes.proofs.reply_of_located.Goals as goal

pub overflow_cast-result : goal.overflow_cast-result
unfolding reply_of_located Sendable
overflow_cast-result c = sfits_widen {w = w32} {w' = w64} (tt {0}) (subst (λ (a : Located). Sendable 16 (reply_of_located a)) c.in-At.is c.requires).1

pub overflow_cast-result-in-At : goal.overflow_cast-result-in-At
unfolding reply_of_located Sendable
overflow_cast-result-in-At c = sfits_widen {w = w32} {w' = w64} (tt {0}) (subst (λ (a : Located). Sendable 16 (reply_of_located a)) c.in-At.is c.requires).4

pub returns-in-At : goal.returns-in-At
unfolding reply_of_located Sendable
returns-in-At c =
    let a = c.in-At in
    let v = subst (λ (l : Located). Sendable 16 (reply_of_located l)) a.is c.requires in
    rw (
      a.is,
      to_z_pos w64 a.station (sfits_widen {w = w32} {w' = w64} (tt {0}) v.1).sfits,
      to_z-of_z w64 a.offset (search rules),
      to_z-of_z w64 a.residual (search rules),
      to_z_pos w64 a.visits (sfits_widen {w = w32} {w' = w64} (tt {0}) v.4).sfits,
    )

pub returns-in-Refused : goal.returns-in-Refused
unfolding reply_of_located
returns-in-Refused c = rw c.in-Refused.is
