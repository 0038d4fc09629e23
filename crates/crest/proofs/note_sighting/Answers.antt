-- `crest::note_sighting` meets its contract: the run's own refusals, then the sighting on the crest, counted.
use mathlib.Core.Path.{◌≡◌, sym, ap, ◌∙◌, subst}
use Rattle.model.specs.declared.ReadingAnswer.{ReadingAnswer}
use Rattle.model.specs.Acceptance.{crest_rules, crest_elements}
use Rattle.model.specs.Crest.{file_crest}
use Rattle.model.specs.Readings.{paper_of_reading}
use Rattle.model.specs.Sightings.{sighted_to}
use Rattle.model.specs.Calls.{reading_call}
use Rattle.sources.specs.Sources.{layout_rules, records_in}
use Rattle.run.proofs.Narrow.{stored}
use Rattle.run.proofs.Calls.{reading_refused, takes_reading}
use Rattle.codes.specs.Codes.{Codable}
use Rattle.crest.proofs.FileAnswers.{sighting_stored, sighting_coded}
use Rattle.crest.proofs.note_sighting.Goals.{After-sight}
use Rattle.crest.proofs.note_sighting.Goals as goal

pub returns-then-number-ne0 : goal.returns-then-number-ne0
returns-then-number-ne0 c = sym (reading_refused (sighted_to (file_crest c.args.crest.now) c.args.sighting) c.args.run.now c.refusal_of-number.ensures c.if-number-ne0.true)

-- what it comes to on the file
module _ (c : After-sight) where
  abbrev came : ReadingAnswer
  came = sighted_to (file_crest c.args.crest.now) c.args.sighting

  told : c.sight.result ≡ came
  unfolding crest_rules crest_elements layout_rules records_in
  told = c.sight.ensures.value

pub kept-requires : goal.kept-requires
kept-requires c =
    let k = (goal.at.kept-requires c).After-sight in
    let room = takes_reading c.args.run.now c.refusal_of-number.ensures c.if-number-ne0.false in
    record {
      run_len = room.0;
      run_value = room.1;
      storable = stored (sym (told k)) (sighting_stored _ c.args.sighting);
      codable = subst (λ (a : ReadingAnswer). Codable (paper_of_reading 0 a)) (sym (told k)) (sighting_coded _ c.args.sighting);
    }

pub returns : goal.returns
returns c = c.kept.ensures ∙ ap (λ (a : ReadingAnswer). reading_call a c.args.run.now) (told (goal.at.returns c).After-sight)
