-- `crest::crest_write` meets its contract: the writer's refusals are small.
use Prim.Native.Nat.{ℕ}
use mathlib.Core.List.{List}
use mathlib.Core.Path.{sym, ap, ap₂, ◌∙◌, subst}
use lib.ListN.{length}
use Rattle.model.specs.declared.Outcome.{Outcome}
use Rattle.model.specs.Answers.{code, paper_of_outcome}
use Rattle.model.specs.Calls.{write_call}
use Rattle.codes.specs.Codes.{Codable}
use Rattle.codes.proofs.Codes.{writer_codable}
use Rattle.crest.proofs.crest_write.Goals as goal

pub outcome_code-requires : goal.outcome_code-requires
outcome_code-requires c =
    let a = c.args in
    subst (λ (o : Outcome). Codable (paper_of_outcome o)) (sym c.write-written.ensures.value) (writer_codable a.records.now (length a.room.now))

pub returns : goal.returns
unfolding write_call
returns c =
    let w = c.write-written.ensures in
    ap₂ (λ (r : ℕ) (l : List ℕ). (r, l)) (c.outcome_code.ensures ∙ ap (λ (o : Outcome). code (paper_of_outcome o)) w.value) w.room_after
