-- `entries::display` meets its contract: what a reading comes to has values that the display pair takes.
use mathlib.Core.Path.{sym, ap, ◌∙◌}
use Rattle.model.specs.Crest.{file_crest}
use Rattle.model.specs.Readings.{display_of}
use Rattle.sources.proofs.Sound.{file_sound}
use Rattle.run.proofs.Narrow.{stored}
use Rattle.readings.proofs.Storable.{answer_storable}
use Rattle.entries.proofs.display.Goals as goal

pub display-requires : goal.display-requires
display-requires c = stored (sym c.answer-came.ensures.value) (answer_storable (file_crest _) (file_sound _) _)

pub returns : goal.returns
returns c = c.display.ensures ∙ ap display_of c.answer-came.ensures.value
