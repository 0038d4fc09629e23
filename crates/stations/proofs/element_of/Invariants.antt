-- `stations::element_of` meets its contract. The invariant: the lengths of the elements before, and the rest of the way, are the station.
use Prim.Native.Nat.{◌+◌, ◌-◌, ◌<◌}
use mathlib.Core.Path.{◌≡◌}
use lib.ListN.{take}
use Rattle.model.specs.Stations.{total}
use Rattle.sources.specs.Sources.{elements_in}
use Rattle.sources.proofs.RecordsRead.{RecordsRead}
use Rattle.stations.proofs.element_of.Given as goal

abbrev pub invariant-loop-i : goal.invariant-loop-i
invariant-loop-i l = RecordsRead l.form l.crest l.amendment l.count × (l.i < l.count) × (total (take l.i (elements_in l.form l.crest l.amendment)) + l.rest ≡ l.s)

abbrev pub decreases-loop-i : goal.decreases-loop-i
decreases-loop-i l = l.count - l.i
