-- `entries::note` meets its contract: what a reading on a run comes to has values that the display pair takes.
use mathlib.Core.Path.{sym, ap, ap₂, ◌∙◌}
use Rattle.model.specs.declared.Noted.{Noted}
use Rattle.model.specs.declared.Display.{Display}
use Rattle.model.specs.Crest.{file_crest}
use Rattle.model.specs.Readings.{display_of}
use Rattle.sources.proofs.Sound.{file_sound}
use Rattle.run.proofs.Narrow.{stored}
use Rattle.readings.proofs.Storable.{noted_storable}
use Rattle.entries.specs.Entries.{noted_reading}
use Rattle.entries.proofs.note.Goals as goal

pub display-requires : goal.display-requires
display-requires c = stored (ap (λ n. n.answer) (sym c.note_file-noted.ensures.0)) (noted_storable (file_crest _) (file_sound _) _ _)

pub returns : goal.returns
unfolding noted_reading
returns c =
    let told = c.note_file-noted.ensures in
    let shown = c.display.ensures ∙ ap (λ n. display_of n.answer) told.0 in record { value = ap₂ (λ (n : Noted) (d : Display). record { answer = n.answer; display = d; run = n.run }) told.0 shown; paper = told.1 }
