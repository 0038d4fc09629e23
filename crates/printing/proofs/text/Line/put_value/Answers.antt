-- `printing::text::Line::put_value` meets its contract, by the value's sign.
use Prim.Native.Nat.{ℕ}
use mathlib.Core.List.{List, ◌++◌}
use denote.Ref.{Bor}
use mathlib.Core.Path.{◌≡◌, ap, ◌∙◌}
use lib.IntN.{nat_abs}
use mir.Syntax.{w32, w64}
use mir.Val.{to_z, of_z}
use Rattle.model.specs.Program.{ascii, decimal, signed}
use Rattle.printing.proofs.Digits.{negative_value, other_value}
use Rattle.printing.proofs.Texts.{then}
use Rattle.printing.proofs.text.Line.put_value.Goals.{then-z-lt0, else-z-lt0}
use Rattle.printing.proofs.text.Line.put_value.Goals as goal

pub returns-clause-value : goal.returns-clause-value
unfolding ascii
returns-clause-value c =
    let z = c.args.z in
    let size : c.magnitude.result ≡ nat_abs (to_z w64 (of_z w64 (to_z w32 (of_z w32 z)))) = rw c.from.ensures at c.magnitude.ensures in
    let words : c.if-z-lt0.put_word.now ++ decimal c.magnitude.result ≡ ascii " " ++ signed z =
    elim c.if-z-lt0.branch [ then-z-lt0 w ↦ ap (λ (x : Bor (List ℕ)). x.now ++ decimal c.magnitude.result) w.put_word-is ∙ negative_value c.ranges.z size w.if-z-lt0.true | else-z-lt0 w ↦ ap (λ (x : Bor (List ℕ)). x.now ++ decimal c.magnitude.result) w.put_word-is ∙ other_value c.ranges.z size w.if-z-lt0.false ] in
    then _ _ _ c.put_word.ensures.value c.put_number.ensures.value ∙ ap (λ t. c.args.self.now ++ t) words
