-- `crest::kept` meets its contract: what was counted on the run that the bytes spelled.
use Prim.Native.Nat.{ℕ}
use mathlib.Core.List.{List}
use mathlib.Core.Path.{◌≡◌, sym, ap, ap₂, ◌∙◌}
use Rattle.model.specs.declared.Noted.{Noted}
use Rattle.model.specs.declared.Run.{Run}
use Rattle.model.specs.Run.{shown_of, counted, noted, run_at, run_bytes}
use Rattle.run.proofs.Noting.{noted_counted}
use Rattle.run.proofs.Calls.{reading_counted}
use Rattle.crest.proofs.kept.Goals.{After-count_answer-noted}
use Rattle.crest.proofs.kept.Goals as goal

pub count_answer-noted-requires : goal.count_answer-noted-requires
count_answer-noted-requires c = record { run_value = rw c.run_at-state.ensures c.requires.run_value; storable = c.requires.storable }

-- what is counted
told : (c : After-count_answer-noted) → c.count_answer-noted.result ≡ record { answer = c.args.answer; run = counted (shown_of c.args.answer) (run_at c.args.run.now) }
told c =
    c.count_answer-noted.ensures.value
    ∙ ap (λ (r : Run). noted c.args.answer r) c.run_at-state.ensures
    ∙ noted_counted c.args.answer (run_at c.args.run.now) c.requires.run_value

pub returns : goal.returns
returns c =
    let n = (goal.at.returns c).After-count_answer-noted in
    let run = c.args.run.now in
    ap₂ (λ (r : ℕ) (l : List ℕ). (r, l)) c.answer_code.ensures (c.put_run.ensures ∙ ap (λ (x : Noted). run_bytes x.run run) (told n))
    ∙ sym (reading_counted c.args.answer run c.requires.run_len c.requires.run_value)
