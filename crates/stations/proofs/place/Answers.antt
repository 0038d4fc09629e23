-- `stations::place` meets its contract: 15, or what is placed at the station.
use mathlib.Core.Bool.{Bool, true}
use mathlib.Core.List.{List, []}
use mathlib.Core.Path.{◌≡◌, sym, ap, ◌∙◌}
use Prim.Native.Nat.{ℕ}
use borrow.Author.Rules.{rules}
use lib.IntN.{ℤ, nat_abs}
use mir.Facts.{to_z-of_z}
use mir.Syntax.{w64}
use mir.Val.{SFits}
use Rattle.integers.proofs.Held.{held}
use Rattle.model.specs.declared.Element.{Element}
use Rattle.model.specs.declared.Placed.TheVariants.{At}
use Rattle.model.specs.Stations.{is_station, position_at, tangent_at}
use Rattle.model.proofs.Answers.{told, station_tells}
use Rattle.elements.specs.declared.Placement.{Placement}
use Rattle.elements.specs.Reached.{placement_of}
use Rattle.sources.specs.Sources.{elements_lent}
use Rattle.stations.proofs.StationRange.{station_within, held_casts}
use Rattle.stations.proofs.StationAnswers.{place_refused, place_done}
use Rattle.stations.proofs.place.Goals.{Else-not-is_station}
use Rattle.stations.proofs.place.Goals as goal

-- the test, of the number as it came
tested : (es : List Element) {s : ℤ} → SFits w64 s → {b : Bool} → b ≡ is_station es (held s) → b ≡ is_station es s
tested es f q = q ∙ ap (is_station es) (to_z-of_z f)

module _ (c : Else-not-is_station) where
  abbrev es : List Element
  es = elements_lent c.args.form c.args.crest c.args.amendment

  station : is_station es c.args.s ≡ true
  station = sym (tested es c.ranges.s c.is_station.ensures) ∙ c.if-not-is_station.false

pub returns-then-not-is_station : goal.returns-then-not-is_station
returns-then-not-is_station c =
    let es = elements_lent c.args.form c.args.crest c.args.amendment in
    let both = told (station_tells _ _) [] (sym (place_refused es c.args.s (sym (tested es c.ranges.s c.is_station.ensures) ∙ c.if-not-is_station.true))) in
    record { value = both.0; paper = both.1 }

pub overflow_cast-s : goal.overflow_cast-s
overflow_cast-s c =
    let o = (goal.at.overflow_cast-s c).Else-not-is_station in
    held_casts c.ranges.s (station_within (es o) c.args.s (station o)).0

pub placed_at-p-requires : goal.placed_at-p-requires
placed_at-p-requires c =
    let o = (goal.at.placed_at-p-requires c).Else-not-is_station in
    record { source_accepted = c.requires; s_bound = rw (to_z-of_z c.ranges.s) (station_within (es o) c.args.s (station o)).1 }

pub returns : goal.returns
returns c =
    let o = (goal.at.returns c).Else-not-is_station in
    let p = c.placed_at-p.result in
    let x = to_z-of_z {w = w64} {z = p.x} (search rules) in
    let y = to_z-of_z {w = w64} {z = p.y} (search rules) in
    let tx = to_z-of_z {w = w64} {z = p.tx} (search rules) in
    let ty = to_z-of_z {w = w64} {z = p.ty} (search rules) in
    let e : p ≡ placement_of (position_at (es o) (nat_abs c.args.s)) (tangent_at (es o) (nat_abs c.args.s)) =
    c.placed_at-p.ensures ∙ ap (λ (k : ℕ). placement_of (position_at (es o) k) (tangent_at (es o) k)) (ap nat_abs (to_z-of_z c.ranges.s)) in
    let both =
    told (station_tells _ _) []
    (rw (x, y, tx, ty) (ap (λ (q : Placement). At q.x q.y q.tx q.ty) e ∙ sym (place_done (es o) c.args.s (station o)))) in
    record { value = both.0; paper = both.1 }
