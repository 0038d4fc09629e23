-- `codes::code_of` meets its contract: a number up to 18 and a place up to 60 keep the sum far within 32 bits.
use borrow.Author.Rules.{rules}
use Rattle.model.specs.Answers.{code}
use Rattle.codes.proofs.code_of.Goals as goal

pub returns : goal.returns
unfolding code
returns c = search rules
