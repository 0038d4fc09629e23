-- `walk::passes::pass_over` meets its contract. The invariant: what is left of the pass, from what is seen, is the whole, and the next element begins where those before it end.
use mathlib.Core.Path.{◌≡◌}
use Prim.Native.Nat.{◌-◌, ◌≤◌}
use lib.ListN.{take}
use Rattle.model.specs.Stations.{total}
use Rattle.sources.specs.Sources.{elements_in}
use Rattle.sources.proofs.RecordsRead.{RecordsRead}
use Rattle.walk.proofs.Passing.{PassLeft}
use Rattle.walk.proofs.passes.pass_over.Given as goal

abbrev pub invariant-loop-i : goal.invariant-loop-i
invariant-loop-i l = RecordsRead l.form l.crest l.amendment l.count × (l.i ≤ l.count) × (l.start ≡ total (take l.i (elements_in l.form l.crest l.amendment))) × PassLeft l.pass (elements_in l.form l.crest l.amendment) l.q l.initial.v l.i l.v

abbrev pub decreases-loop-i : goal.decreases-loop-i
decreases-loop-i l = l.count - l.i
