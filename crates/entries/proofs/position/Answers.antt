-- `entries::position` meets its contract: a file is one form of a crest.
use mathlib.Core.Path.{ap, ◌∙◌}
use mir.Facts.{to_z-of_z}
use Rattle.model.specs.Acceptance.{crest_rules, crest_elements}
use Rattle.model.specs.Answers.{asked_paper, station_question, placed}
use Rattle.model.specs.Crest.{file_crest}
use Rattle.sources.specs.Sources.{layout_rules, records_in}
use Rattle.entries.proofs.position.Goals as goal

pub returns : goal.returns
unfolding crest_rules crest_elements layout_rules records_in
returns c =
    let crest = file_crest c.args.file.now in
    let held = to_z-of_z c.ranges.s in
    record {
      value = c.position.ensures.value ∙ ap (placed crest) held;
      paper = c.position.ensures.paper ∙ ap (λ z. asked_paper (station_question z) crest) held;
    }
