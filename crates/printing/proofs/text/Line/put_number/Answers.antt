-- `printing::text::Line::put_number` meets its contract: the fewest digits that hold the number are its decimal digits.
use mathlib.Core.List.{◌++◌}
use mathlib.Core.Path.{ap, ◌∙◌}
use Rattle.printing.proofs.Digits.{fewest_decimal}
use Rattle.printing.proofs.text.Line.put_number.Goals as goal

pub returns-clause-value : goal.returns-clause-value
returns-clause-value c =
    let d = c.decimal-count in
    c.put_word.ensures.value ∙ ap (λ t. c.args.self.now ++ t) (d.ensures.digits ∙ fewest_decimal _ _ d.ensures.len)
