-- `elements::series::curve` meets its contract: u and v are made of the square and the factors as the definitions make them.
use Rattle.elements.specs.Reached.{series_of}
use Rattle.elements.proofs.Steps.{series_at_lem}
use Rattle.elements.proofs.series.curve.Goals as goal

pub returns : goal.returns
returns c sign h e =
    let second = c in
    let first = second in
    let square = first in
    series_at_lem sign _ _ square.square_of-square.ensures.result_value (series_of square.args.k) _ _ _ _ _ first.factor_of.ensures.result_value second.factor_of-2.ensures.result_value second.along.ensures (c.aside.ensures sign h e)
