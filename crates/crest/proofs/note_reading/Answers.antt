-- `crest::note_reading` meets its contract: the run's own refusals, then the reading on the crest, counted.
use mathlib.Core.Path.{◌≡◌, sym, ap, ◌∙◌, subst}
use Rattle.model.specs.declared.ReadingAnswer.{ReadingAnswer}
use Rattle.model.specs.Acceptance.{crest_rules, crest_elements}
use Rattle.model.specs.Crest.{file_crest}
use Rattle.model.specs.Readings.{answer_to, paper_of_reading}
use Rattle.model.specs.Calls.{reading_call}
use Rattle.sources.specs.Sources.{layout_rules, records_in}
use Rattle.run.proofs.Narrow.{stored}
use Rattle.run.proofs.Calls.{reading_refused, takes_reading}
use Rattle.codes.specs.Codes.{Codable}
use Rattle.crest.proofs.FileAnswers.{reading_stored, reading_coded}
use Rattle.crest.proofs.note_reading.Goals.{After-read}
use Rattle.crest.proofs.note_reading.Goals as goal

pub returns-then-refused-ne0 : goal.returns-then-refused-ne0
returns-then-refused-ne0 c = sym (reading_refused (answer_to (file_crest c.args.crest.now) c.args.reading) c.args.run.now c.refusal_of-refused.ensures c.if-refused-ne0.true)

-- what it comes to on the file
module _ (c : After-read) where
  abbrev came : ReadingAnswer
  came = answer_to (file_crest c.args.crest.now) c.args.reading

  told : c.read.result ≡ came
  unfolding crest_rules crest_elements layout_rules records_in
  told = c.read.ensures.value

pub kept-requires : goal.kept-requires
kept-requires c =
    let k = (goal.at.kept-requires c).After-read in
    let room = takes_reading c.args.run.now c.refusal_of-refused.ensures c.if-refused-ne0.false in
    record {
      run_len = room.0;
      run_value = room.1;
      storable = stored (sym (told k)) (reading_stored _ c.args.reading);
      codable = subst (λ (a : ReadingAnswer). Codable (paper_of_reading 0 a)) (sym (told k)) (reading_coded _ c.args.reading);
    }

pub returns : goal.returns
returns c = c.kept.ensures ∙ ap (λ (a : ReadingAnswer). reading_call a c.args.run.now) (told (goal.at.returns c).After-read)
