-- `comparisons::numbers::agrees` meets its contract: both ways come to the number of the row's bits.
use Prim.Native.Nat.{ℕ}
use mathlib.Core.Bool.{Bool, ◌&&◌, and_self}
use mathlib.Core.Path.{ap, ap₂, ◌∙◌}
use lib.Ieee.{Float, binary64, of_bits}
use mir.Syntax.{w64}
use mir.ValLaws.{to_z-of_z}
use Rattle.model.specs.Readings.{whole_of}
use Rattle.whole_numbers.specs.declared.WholeNumber.{WholeNumber}
use Rattle.whole_numbers.specs.WholeNumbers.{short_of}
use Rattle.comparisons.specs.Said.{is_at}
use Rattle.comparisons.specs.Agreement.{number_code, number_agrees}
use Rattle.comparisons.proofs.numbers.agrees.Goals as goal

pub returns : goal.returns
unfolding number_agrees
returns c =
    let row = c.args.row.now in
    let is : WholeNumber → Bool = λ n. is_at row 8 (number_code n) in
    ap₂ ◌&&◌
    (c.is_at.ensures ∙ ap (is_at row 8) (to_z-of_z w64 _ (record { sfits = c.code.type_inv }) ∙ c.code.ensures) ∙ ap is c.whole_of_bits.ensures)
    (c.is_at-2.ensures ∙ ap (is_at row 8) (to_z-of_z w64 _ (record { sfits = c.code-2.type_inv }) ∙ c.code-2.ensures) ∙ ap is (c.whole_of.ensures ∙ ap (λ (x : Float). short_of (whole_of x)) c.float.ensures))
    ∙ and_self _
    ∙ ap (λ (n : ℕ). is (short_of (whole_of (of_bits binary64 n)))) c.u64_at-bits.ensures
