-- What a reading or a sighting on a crest file comes to fits the run record, and has a code.
use Prim.Native.Nat.{ℕ}
use mathlib.Core.List.{List}
use Rattle.model.specs.declared.Reading.{Reading}
use Rattle.model.specs.declared.Sighting.{Sighting}
use Rattle.model.specs.declared.Observation.TheVariants.{Read, Sighted}
use Rattle.model.specs.Crest.{file_crest}
use Rattle.model.specs.Readings.{answer_to, paper_of_reading}
use Rattle.model.specs.Sightings.{sighted_to, observed_question}
use Rattle.model.specs.Run.{shown_of}
use Rattle.sources.proofs.Sound.{file_sound}
use Rattle.run.specs.Stored.{Storable}
use Rattle.readings.proofs.Storable.{answer_storable}
use Rattle.codes.specs.Codes.{Codable}
use Rattle.codes.proofs.QuestionCodes.{answer_codable}

module _ (file : List ℕ) where
  pub reading_stored : (r : Reading) → Storable (shown_of (answer_to (file_crest file) r))
  unfolding observed_question
  reading_stored r = answer_storable (file_crest file) (file_sound file) (Read r)

  pub reading_coded : (r : Reading) → Codable (paper_of_reading 0 (answer_to (file_crest file) r))
  unfolding observed_question
  reading_coded r = answer_codable (file_crest file) (file_sound file) (Read r)

  pub sighting_stored : (k : Sighting) → Storable (shown_of (sighted_to (file_crest file) k))
  unfolding observed_question
  sighting_stored k = answer_storable (file_crest file) (file_sound file) (Sighted k)

  pub sighting_coded : (k : Sighting) → Codable (paper_of_reading 0 (sighted_to (file_crest file) k))
  unfolding observed_question
  sighting_coded k = answer_codable (file_crest file) (file_sound file) (Sighted k)
