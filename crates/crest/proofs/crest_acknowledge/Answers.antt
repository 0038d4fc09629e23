-- `crest::crest_acknowledge` meets its contract: the length first, then the run by value.
use Prim.Native.Nat.{ℕ}
use mathlib.Core.List.{List}
use mathlib.Core.Path.{sym, ap, ◌∙◌}
use Rattle.model.specs.declared.Run.{Run}
use Rattle.model.specs.Run.{acknowledged, run_bytes}
use Rattle.run.proofs.Calls.{acknowledge_18, acknowledge_0}
use Rattle.crest.proofs.crest_acknowledge.Goals as goal

pub returns-then-len-ne-RUN_SIZE : goal.returns-then-len-ne-RUN_SIZE
returns-then-len-ne-RUN_SIZE c = sym (acknowledge_18 c.args.run.now c.if-len-ne-RUN_SIZE.true)

pub returns : goal.returns
returns c =
    let run = c.args.run.now in
    ap (λ (l : List ℕ). (0, l)) (c.put_run.ensures ∙ ap (λ (s : Run). run_bytes s run) (c.acknowledge-cleared.ensures ∙ ap acknowledged c.run_at-state.ensures))
    ∙ sym (acknowledge_0 run c.if-len-ne-RUN_SIZE.false)
