-- `probes::reply_of_inverse` meets its contract: a case for each answer.
use mir.Syntax.{w64}
use mir.ValLaws.{to_z-of_z}
use borrow.Author.Rules.{rules}
use Rattle.probes.specs.Replies.{reply_of_inverse}
use Rattle.probes.proofs.reply_of_inverse.Goals as goal

pub returns-in-At : goal.returns-in-At
unfolding reply_of_inverse
returns-in-At c = rw (c.in-At.is, to_z-of_z w64 c.in-At.x (search rules), to_z-of_z w64 c.in-At.y (search rules))

pub returns-in-Refused : goal.returns-in-Refused
unfolding reply_of_inverse
returns-in-Refused c = rw c.in-Refused.is
