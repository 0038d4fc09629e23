-- `stations::on_line` meets its contract: the code makes the two tests.
use mathlib.Core.Path.{◌≡◌, sym, ap, ◌∙◌}
use Prim.Native.Nat.{ℕ}
use lib.Dec.{leb}
use lib.IntN.{nat_abs}
use mir.Facts.{to_z-of_z}
use Rattle.model.specs.Answers.{widest_offset}
use Rattle.model.specs.Stations.{is_station}
use Rattle.sources.specs.Sources.{elements_lent}
use Rattle.stations.proofs.on_line.Goals.{After-is_station}
use Rattle.stations.proofs.on_line.Goals as goal

tested : (c : After-is_station) → is_station (elements_lent c.args.form c.args.crest c.args.amendment) c.args.s ≡ c.is_station.result
tested c =
    sym (c.is_station.ensures ∙ ap (is_station (elements_lent c.args.form c.args.crest c.args.amendment)) (to_z-of_z c.ranges.s))

pub returns-then-not-is_station : goal.returns-then-not-is_station
returns-then-not-is_station c = rw (tested (goal.at.returns-then-not-is_station c).After-is_station, c.if-not-is_station.true)

pub returns : goal.returns
returns c =
    rw (tested (goal.at.returns c).After-is_station, c.if-not-is_station.false)
    (ap (λ (n : ℕ). leb n widest_offset) (c.magnitude.ensures ∙ ap nat_abs (to_z-of_z c.ranges.w)))
