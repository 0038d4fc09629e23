-- `nearest::locate` meets its contract: the code makes the tests of document 01's order at the station judged.
use mathlib.Core.Bool.{Bool, true, ◌&&◌}
use mathlib.Core.List.{List, []}
use mathlib.Core.Path.{◌≡◌, sym, ◌∙◌, ap, ap₂, subst}
use Prim.Native.Nat.{ℕ, ◌≤◌, ◌<◌}
use native.Mathlib.Omega.{arith}
use lib.Dec.{eqb}
use lib.IntN.{ℤ, pos, neg_ℤ}
use lib.Signed.{lt_z}
use borrow.Author.Rules.{rules}
use mir.Facts.{to_z-of_z}
use mir.Syntax.{w64}
use mir.Val.{SFits}
use Rattle.integers.proofs.Held.{held}
use Rattle.model.specs.declared.Element.{Element}
use Rattle.model.specs.declared.Point.{Point}
use Rattle.model.specs.declared.Located.TheVariants.{At as LocatedAt}
use Rattle.model.specs.Acceptance.{in_frame}
use Rattle.model.specs.Stations.{total, position_at, tangent_at, D}
use Rattle.model.specs.Judged.{judged, residual_at, offset_at}
use Rattle.model.specs.Walk.{visit_count}
use Rattle.model.specs.Answers.{farthest, past_end}
use Rattle.model.proofs.Answers.{told, point_tells}
use Rattle.model.proofs.Judged.{judged_least}
use Rattle.plane.proofs.Frame.{framed}
use Rattle.elements.specs.declared.Placement.{Placement}
use Rattle.elements.specs.Extent.{Placeable}
use Rattle.elements.specs.Reached.{placement_of}
use Rattle.sources.specs.Sources.{elements_lent}
use Rattle.stations.proofs.StationExtent.{station_placeable}
use Rattle.walk.specs.declared.Seen.{Seen}
use Rattle.walk.specs.Search.{walked_of}
use Rattle.nearest.specs.declared.sides.Sides.{Sides}
use Rattle.nearest.specs.Sides.{sides_of}
use Rattle.nearest.proofs.Deciding.{gives_11, gives_12, gives_13, gives_14, gives_answer}
use Rattle.nearest.proofs.locate.Goals.{Else-not-in_frame}
use Rattle.nearest.proofs.locate.Goals as goal

-- ---- in the frame

frame_tested : (q : Point) {b : Bool} → SFits w64 q.x → SFits w64 q.y → b ≡ in_frame (held q.x) (held q.y) → b ≡ in_frame q.x q.y
frame_tested q x y e = e ∙ ap₂ in_frame (to_z-of_z x) (to_z-of_z y)

inside : (c : Else-not-in_frame) → in_frame c.args.q.x c.args.q.y ≡ true
inside c = sym (frame_tested c.args.q (search rules) (search rules) c.in_frame.ensures) ∙ c.if-not-in_frame.false

-- ---- the station judged

module _ (es : List Element) (q : Point) {w : Seen} (seen : w ≡ walked_of es q) where
  at_is : w.at ≡ judged es q
  unfolding walked_of
  at_is = ap (λ (x : Seen). x.at) seen

  best_is : w.best ≡ D es q (judged es q)
  unfolding walked_of
  best_is = ap (λ (x : Seen). x.best) seen

  visits_is : w.visits ≡ visit_count es q
  unfolding walked_of
  visits_is = ap (λ (x : Seen). x.visits) seen

  at_within : w.at ≤ total es
  at_within = omega (arith, at_is, (judged_least es q).within)

  -- no refusal before 13
  near : w.best ≤ farthest → D es q (judged es q) ≤ farthest
  near h = omega (arith, best_is)

  -- ---- residual and offset there

  module _ {at : Placement} {d : Sides} (placed : at ≡ placement_of (position_at es w.at) (tangent_at es w.at)) (sides : d ≡ sides_of (record { x = at.x; y = at.y }) (record { x = at.tx; y = at.ty }) q) where
    sides_is : d ≡ sides_of (position_at es (judged es q)) (tangent_at es (judged es q)) q
    sides_is =
        sides
        ∙ ap (λ (p : Placement). sides_of (record { x = p.x; y = p.y }) (record { x = p.tx; y = p.ty }) q) placed
        ∙ ap (λ (x : ℕ). sides_of (position_at es x) (tangent_at es x) q) at_is

    residual_is : d.residual ≡ residual_at es q (judged es q)
    unfolding sides_of residual_at
    residual_is = ap (λ (x : Sides). x.residual) sides_is

    offset_is : d.offset ≡ offset_at es q (judged es q)
    unfolding sides_of offset_at
    offset_is = ap (λ (x : Sides). x.offset) sides_is

    -- ---- the tests of 13 and 14

    before_tested : {b : Bool} → SFits w64 d.residual → b ≡ (eqb w.at 0 && lt_z (held d.residual) (neg_ℤ (pos past_end))) →
        b ≡ (eqb (judged es q) 0 && lt_z (residual_at es q (judged es q)) (neg_ℤ (pos past_end)))
    before_tested f e = e ∙ ap₂ ◌&&◌ (ap (λ (x : ℕ). eqb x 0) at_is) (ap (λ (z : ℤ). lt_z z (neg_ℤ (pos past_end))) (to_z-of_z f ∙ residual_is))

    after_tested : {b : Bool} {t : ℕ} → SFits w64 d.residual → t ≡ total es → b ≡ (eqb w.at t && lt_z (pos past_end) (held d.residual)) →
        b ≡ (eqb (judged es q) (total es) && lt_z (pos past_end) (residual_at es q (judged es q)))
    after_tested f last e = e ∙ ap₂ ◌&&◌ (ap₂ eqb at_is last) (ap (lt_z (pos past_end)) (to_z-of_z f ∙ residual_is))

answer_is_lem : {s t n m : ℕ} {a b x y : ℤ} → s ≡ t → a ≡ b → x ≡ y → n ≡ m → LocatedAt s a x n ≡ LocatedAt t b y m
answer_is_lem p q r o = cc

-- ---- the needs

pub returns-then-not-in_frame : goal.returns-then-not-in_frame
returns-then-not-in_frame c =
    let a = c.args in
    let out = sym (frame_tested a.q (search rules) (search rules) c.in_frame.ensures) ∙ c.if-not-in_frame.true in
    let both = told (point_tells _ _) [] (c.not_located.ensures ∙ sym (gives_11 (elements_lent a.form a.crest a.amendment) a.q out)) in
    record { value = both.0; paper = both.1 }

pub walk-w-requires : goal.walk-w-requires
walk-w-requires c = record { source_accepted = c.requires; in_frame = framed c.args.q (inside (goal.at.walk-w-requires c).Else-not-in_frame) }

pub returns-then-w-gt-FARTHEST : goal.returns-then-w-gt-FARTHEST
returns-then-w-gt-FARTHEST c =
    let a = c.args in
    let es = elements_lent a.form a.crest a.amendment in
    let far : farthest < D es a.q (judged es a.q) = omega (arith, best_is es a.q c.walk-w.ensures) in
    let on = inside (goal.at.returns-then-w-gt-FARTHEST c).Else-not-in_frame in
    let both = told (point_tells _ _) [] (c.not_located-then-w-gt-FARTHEST.ensures ∙ sym (gives_12 es a.q on far)) in
    record { value = both.0; paper = both.1 }

pub placed_at-requires : goal.placed_at-requires
placed_at-requires c =
    let a = c.args in
    record { source_accepted = c.requires; s_bound = at_within (elements_lent a.form a.crest a.amendment) a.q c.walk-w.ensures }

pub to_point-d-requires : goal.to_point-d-requires
to_point-d-requires c =
    let a = c.args in
    let es = elements_lent a.form a.crest a.amendment in
    let there = station_placeable es c.walk-w.result.at c.requires.alignment.each (at_within es a.q c.walk-w.ensures) in
    record { placeable = subst Placeable (sym c.placed_at.ensures) there; in_frame = framed a.q (inside (goal.at.to_point-d-requires c).Else-not-in_frame) }

pub returns-then-before_start : goal.returns-then-before_start
returns-then-before_start c =
    let a = c.args in
    let es = elements_lent a.form a.crest a.amendment in
    let e = c.walk-w.ensures in
    let before = sym (before_tested es a.q e c.placed_at.ensures c.to_point-d.ensures (search rules) c.before_start.ensures) ∙ c.if-before_start.true in
    let both = told (point_tells _ _) [] (c.not_located-then-before_start.ensures ∙ sym (gives_13 es a.q (inside (goal.at.returns-then-before_start c).Else-not-in_frame) (near es a.q e (omega arith)) before)) in
    record { value = both.0; paper = both.1 }

pub returns-then-after_end : goal.returns-then-after_end
returns-then-after_end c =
    let a = c.args in
    let es = elements_lent a.form a.crest a.amendment in
    let e = c.walk-w.ensures in
    let after = sym (after_tested es a.q e c.placed_at.ensures c.to_point-d.ensures (search rules) c.total.ensures.0 c.after_end.ensures) ∙ c.if-after_end.true in
    let both = told (point_tells _ _) [] (c.not_located-then-after_end.ensures ∙ sym (gives_14 es a.q (inside (goal.at.returns-then-after_end c).Else-not-in_frame) (near es a.q e (omega arith)) after)) in
    record { value = both.0; paper = both.1 }

pub returns : goal.returns
returns c =
    let a = c.args in
    let es = elements_lent a.form a.crest a.amendment in
    let e = c.walk-w.ensures in
    let p = c.placed_at.ensures in
    let t = c.to_point-d.ensures in
    let along : SFits w64 c.to_point-d.result.residual = search rules in
    let aside : SFits w64 c.to_point-d.result.offset = search rules in
    let not_before = sym (before_tested es a.q e p t along c.before_start.ensures) ∙ c.if-before_start.false in
    let not_after = sym (after_tested es a.q e p t along c.total.ensures.0 c.after_end.ensures) ∙ c.if-after_end.false in
    let answer = answer_is_lem (at_is es a.q e) (to_z-of_z aside ∙ offset_is es a.q e p t) (to_z-of_z along ∙ residual_is es a.q e p t) (visits_is es a.q e) in
    let both = told (point_tells _ _) [] (answer ∙ sym (gives_answer es a.q (inside (goal.at.returns c).Else-not-in_frame) (near es a.q e (omega arith)) not_before not_after)) in
    record { value = both.0; paper = both.1 }
