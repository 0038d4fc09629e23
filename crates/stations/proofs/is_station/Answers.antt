-- `stations::is_station` meets its contract, by the sign.
use mathlib.Core.Bool.{false}
use mathlib.Core.List.{List}
use mathlib.Core.Path.{◌≡◌, sym, ap, ap₂, subst, ◌∙◌}
use lib.Dec.{T, leb}
use lib.IntN.{pos, nat_abs}
use lib.Signed.{lt_z}
use mir.Facts.{to_z-of_z}
use Rattle.integers.proofs.Tests.{not_below_0}
use Rattle.model.specs.declared.Element.{Element}
use Rattle.sources.specs.Sources.{elements_lent}
use Rattle.stations.proofs.StationRange.{below_start, from_start, held_casts}
use Rattle.stations.proofs.is_station.Goals.{Else-s-lt0, Start}
use Rattle.stations.proofs.is_station.Goals as goal

abbrev es : Start → List Element
es s = elements_lent s.args.form s.args.crest s.args.amendment

from_zero : (c : Else-s-lt0) → lt_z c.args.s (pos 0) ≡ false
from_zero c = rw (to_z-of_z c.ranges.s) at c.if-s-lt0.false

pub returns-then-s-lt0 : goal.returns-then-s-lt0
returns-then-s-lt0 c =
    let s = c.before.before.before in
    sym (below_start (es (goal.at.returns-then-s-lt0 c).Start) s.args.s (rw (to_z-of_z s.ranges.s) at c.if-s-lt0.true))

pub overflow_cast-result : goal.overflow_cast-result
overflow_cast-result c =
    let s = c in
    held_casts s.ranges.s (subst T (sym (not_below_0 s.args.s (from_zero c))) tt)

pub returns : goal.returns
returns c =
    let s = c.before.before.before.before in
    ap₂ leb (ap nat_abs (to_z-of_z s.ranges.s)) c.total.ensures.0 ∙ sym (from_start (es (goal.at.returns c).Start) s.args.s (from_zero (goal.at.returns c).Else-s-lt0))
