-- `fields::parts::all_zero` meets its contract: what the fold over the bytes comes to is the test of all.
use Rattle.std.proofs.Common.{rules, true, ◌&&◌, ◌∙◌}
use Rattle.std.proofs.lemmas.Iterator.{YieldsList-from_slice}
use Rattle.std.proofs.lemmas.Iterator.Consumers.{fold_from_yields_List}
use borrow.Author.Tests.{tests}
use lib.Dec.{eqb}
use Rattle.fields.proofs.Zeros.{zeros_folded}
use Rattle.fields.proofs.parts.all_zero.Goals as goal

pub returns : goal.returns
returns c =
    fold_from_yields_List _ (λ z b. z && eqb b 0) true _ c.fold.ensures.ran (YieldsList-from_slice c.args.s.now cc) (λ z x r q k. search (rules, tests))
    ∙ zeros_folded true c.args.s.now
