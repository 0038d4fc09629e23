-- `model::refused` meets its contract: it makes the refusal that the contract names.
use mathlib.Core.Path.{refl}
use Rattle.model.proofs.Answers.{told_outcome}
use Rattle.model.proofs.refused.Goals as goal

pub returns : goal.returns
returns c = let told = told_outcome _ refl in record { value = told.0; paper = told.1 }
