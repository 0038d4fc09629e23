-- `comparisons::calls::value` meets its contract: a case for each sort of call.
use mathlib.Core.Path.{◌≡◌, ap, ap₂, ◌∙◌}
use native.Mathlib.Omega.{arith}
use borrow.Author.Tests.{eq-eqb}
use Rattle.std.proofs.lemmas.Bool.Decides.{nat_tests}
use lib.Ieee.{Float, binary64, of_bits}
use mathlib.Core.List.{List}
use Prim.Native.Nat.{ℕ}
use Rattle.model.specs.declared.Reading.TheVariants.{PlanePoint, LinePlace}
use Rattle.model.specs.declared.Sighting.{Sighting}
use Rattle.model.specs.Crest.{file_crest}
use Rattle.model.specs.Readings.{answer_to}
use Rattle.model.specs.Sightings.{sighted_to, observed_question}
use Rattle.model.specs.Calls.{reading_call}
use Rattle.model.specs.Program.{u64_at}
use Rattle.comparisons.specs.Agreement.{called_by}
use Rattle.comparisons.proofs.calls.value.Goals as goal

-- both numbers are the row's
module _ (row crest run : List ℕ) {n m : ℕ} {one two : Float} (n_is : n ≡ u64_at row 8) (m_is : m ≡ u64_at row 16) (one_is : one ≡ of_bits binary64 n) (two_is : two ≡ of_bits binary64 m) where
  plane : reading_call (answer_to (file_crest crest) (PlanePoint one two)) run ≡ reading_call (answer_to (file_crest crest) (PlanePoint (of_bits binary64 (u64_at row 8)) (of_bits binary64 (u64_at row 16)))) run
  plane = ap₂ (λ (x y : Float). reading_call (answer_to (file_crest crest) (PlanePoint x y)) run) (one_is ∙ ap (of_bits binary64) n_is) (two_is ∙ ap (of_bits binary64) m_is)

  line : reading_call (answer_to (file_crest crest) (LinePlace one two)) run ≡ reading_call (answer_to (file_crest crest) (LinePlace (of_bits binary64 (u64_at row 8)) (of_bits binary64 (u64_at row 16)))) run
  line = ap₂ (λ (x y : Float). reading_call (answer_to (file_crest crest) (LinePlace x y)) run) (one_is ∙ ap (of_bits binary64) n_is) (two_is ∙ ap (of_bits binary64) m_is)

pub returns-in-0 : goal.returns-in-0
unfolding called_by observed_question
returns-in-0 c =
    rw (eq-eqb _ _ c.in-0.is)
    (c.crest_plane_reading.ensures ∙ plane c.args.row.now c.args.crest.now c.args.run.now c.u64_at.ensures c.u64_at-2.ensures c.float-one.ensures c.float-two.ensures)

pub returns-in-1 : goal.returns-in-1
unfolding called_by observed_question
returns-in-1 c =
    rw c.in-1.is
    (c.crest_line_reading.ensures ∙ line c.args.row.now c.args.crest.now c.args.run.now c.u64_at.ensures c.u64_at-2.ensures c.float-one.ensures c.float-two.ensures)

pub returns-in-2 : goal.returns-in-2
unfolding called_by
returns-in-2 c = rw c.in-2.is c.crest_acknowledge.ensures

pub returns-in-3 : goal.returns-in-3
unfolding called_by observed_question
returns-in-3 c =
    rw c.in-3.is
    (c.sighted.ensures ∙ ap (λ (x : Sighting). reading_call (sighted_to (file_crest c.args.crest.now) x) c.args.run.now) c.sighting.ensures)

pub returns-in_default : goal.returns-in_default
unfolding called_by
returns-in_default c = grind (arith, nat_tests)
