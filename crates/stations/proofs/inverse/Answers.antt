-- `stations::inverse` meets its contract: 15, then 11, then the point.
use mathlib.Core.Bool.{Bool, true, ◌&&◌, and-eq-true_iff}
use mathlib.Core.List.{List, []}
use mathlib.Core.Path.{◌≡◌, sym, ap, ap₂, ◌∙◌}
use borrow.Author.Rules.{rules}
use borrow.Author.Tests.{leb-true}
use lib.Dec.{leb}
use lib.IntN.{ℤ, nat_abs}
use mir.Facts.{to_z-of_z}
use mir.Syntax.{w64}
use Rattle.integers.proofs.Held.{held}
use Rattle.model.specs.declared.Element.{Element}
use Rattle.model.specs.declared.Point.{Point}
use Rattle.model.specs.Acceptance.{in_frame}
use Rattle.model.specs.Stations.{is_station}
use Rattle.model.specs.Answers.{widest_offset, inverse_at}
use Rattle.model.proofs.Answers.{told, place_tells}
use Rattle.sources.specs.Sources.{elements_lent}
use Rattle.stations.proofs.StationRange.{station_within, held_casts}
use Rattle.stations.proofs.InverseAnswers.{inverse_off_line, inverse_outside, inverse_inside}
use Rattle.stations.proofs.inverse.Goals.{After-inverse_at-q, Else-not-on_line, Start}
use Rattle.stations.proofs.inverse.Goals as goal

abbrev es : Start → List Element
es s = elements_lent s.args.form s.args.crest s.args.amendment

-- whether station and offset are in range, of the numbers as they came
abbrev on : Start → Bool
on s = is_station (es s) s.args.s && leb (nat_abs s.args.w) widest_offset

tested : (s : Start) {b : Bool} → b ≡ (is_station (es s) (held s.args.s) && leb (nat_abs (held s.args.w)) widest_offset) → b ≡ on s
tested s q = q ∙ ap₂ (λ (n w : ℤ). is_station (es s) n && leb (nat_abs w) widest_offset) (to_z-of_z s.ranges.s) (to_z-of_z s.ranges.w)

module _ (c : Else-not-on_line) where
  abbrev start : Start
  start = c.before.before.before.before.before

  on_line : on start ≡ true
  on_line = sym (tested start c.on_line.ensures) ∙ c.if-not-on_line.false

  both : (is_station (es start) start.args.s ≡ true) × (leb (nat_abs start.args.w) widest_offset ≡ true)
  both = (and-eq-true_iff (is_station (es start) start.args.s) (leb (nat_abs start.args.w) widest_offset)).0 on_line

-- the point, and its coordinates through their bits
module _ (c : After-inverse_at-q) where
  abbrev q : Point
  q = inverse_at (elements_lent c.args.form c.args.crest c.args.amendment) (nat_abs c.args.s) c.args.w

  point : c.inverse_at-q.result ≡ q
  point =
      c.inverse_at-q.ensures
      ∙ ap₂ (λ (s w : ℤ). inverse_at (elements_lent c.args.form c.args.crest c.args.amendment) (nat_abs s) w) (to_z-of_z c.ranges.s) (to_z-of_z c.ranges.w)

  x_is : held c.inverse_at-q.result.x ≡ q.x
  x_is = to_z-of_z {w = w64} (search rules) ∙ ap (λ (p : Point). p.x) point

  y_is : held c.inverse_at-q.result.y ≡ q.y
  y_is = to_z-of_z {w = w64} (search rules) ∙ ap (λ (p : Point). p.y) point

  framed : {b : Bool} → b ≡ in_frame (held c.inverse_at-q.result.x) (held c.inverse_at-q.result.y) → in_frame q.x q.y ≡ b
  framed k = sym (k ∙ ap₂ in_frame x_is y_is)

pub returns-then-not-on_line : goal.returns-then-not-on_line
returns-then-not-on_line c =
    let s = (goal.at.returns-then-not-on_line c).Start in
    let both = told (place_tells _ _ _) [] (sym (inverse_off_line (es s) s.args.s s.args.w (sym (tested s c.on_line.ensures) ∙ c.if-not-on_line.true))) in
    record { value = both.0; paper = both.1 }

pub overflow_cast-s : goal.overflow_cast-s
overflow_cast-s c =
    let s = (goal.at.overflow_cast-s c).Start in
    held_casts s.ranges.s (station_within (es s) s.args.s (both (goal.at.overflow_cast-s c).Else-not-on_line).0).0

pub inverse_at-q-requires : goal.inverse_at-q-requires
inverse_at-q-requires c =
    let s = (goal.at.inverse_at-q-requires c).Start in
    let on = both (goal.at.inverse_at-q-requires c).Else-not-on_line in
    record {
      source_accepted = s.requires;
      s_bound = rw (to_z-of_z s.ranges.s) (station_within (es s) s.args.s on.0).1;
      w_bound = rw (to_z-of_z s.ranges.w) (leb-true (nat_abs s.args.w) widest_offset on.1);
    }

pub returns-then-not-in_frame : goal.returns-then-not-in_frame
returns-then-not-in_frame c =
    let s = (goal.at.returns-then-not-in_frame c).Start in
    let on = on_line (goal.at.returns-then-not-in_frame c).Else-not-on_line in
    let out = framed (goal.at.returns-then-not-in_frame c).After-inverse_at-q c.in_frame.ensures ∙ c.if-not-in_frame.true in
    let both = told (place_tells _ _ _) [] (sym (inverse_outside (es s) s.args.s s.args.w on out)) in
    record { value = both.0; paper = both.1 }

pub returns : goal.returns
returns c =
    let s = (goal.at.returns c).Start in
    let on = on_line (goal.at.returns c).Else-not-on_line in
    let d = (goal.at.returns c).After-inverse_at-q in
    let inside = framed d c.in_frame.ensures ∙ c.if-not-in_frame.false in
    let both = told (place_tells _ _ _) [] (rw (x_is d, y_is d) (sym (inverse_inside (es s) s.args.s s.args.w on inside))) in
    record { value = both.0; paper = both.1 }
