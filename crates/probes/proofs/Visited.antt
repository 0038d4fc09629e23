-- How many stations the walk visits: those of each pass rise, so that neither visits a station twice.
use mathlib.Core.List.{List}
use Prim.Native.Nat.{◌+◌, ◌*◌, ◌≤◌, ◌<◌}
use native.Mathlib.Omega.{arith}
use lib.ListN.{length}
use Rattle.model.specs.declared.Element.{Element}
use Rattle.model.specs.declared.Point.{Point}
use Rattle.model.specs.Accepted.{AllAccepted}
use Rattle.model.specs.Stations.{total}
use Rattle.model.specs.Walk.{visit_count}
use Rattle.walk_laws.proofs.Visits.{rising_length, first_rises}
use Rattle.walk_laws.proofs.Walked.{second_rises}
use Rattle.walk_laws.proofs.Outcomes.{count_is}

pub visits_within : (es : List Element) → 0 < length es → AllAccepted es → (p : Point) → visit_count es p ≤ 2 * (total es + 1)
visits_within es some accepted p = omega (arith, count_is es p, rising_length (first_rises (total es)), rising_length (second_rises es some accepted p))
