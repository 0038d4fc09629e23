-- A reading or a sighting on a run, for a caller in Rattle: what it came to, with the display pair, and the run afterwards.
use Rattle.model.specs.declared.ReadingAnswer.{ReadingAnswer}
use Rattle.model.specs.declared.Run.{Run}
use Rattle.model.specs.Readings.{display_of}
use Rattle.model.specs.Run.{noted}
use Rattle.entries.specs.declared.NotedReading.{NotedReading}

-- "It goes with a plane point's answer; else both are 0.0.": of what the reading came to on the run, 16 too
unfoldable pub noted_reading : ReadingAnswer → Run → NotedReading
unfolding noted display_of
noted_reading a run =
    let n = noted a run in
    record { answer = n.answer; display = display_of n.answer; run = n.run }
