-- A sighting's own rules in their order: 7 for either pair, 11 for the place of the instrument, 15 for the distance; and how large its numbers are where none of them refuses.
use Prim.Native.Nat.{◌*◌, ◌≤◌}
use mathlib.Core.Bool.{Bool, true, false, and-eq-true_iff}
use mathlib.Core.List.{[]}
use mathlib.Core.Path.{◌≡◌, refl, sym, ap₂, ◌∙◌}
use borrow.Author.Tests.{leb-true}
use lib.Dec.{leb}
use lib.IntN.{ℤ, pos, nat_abs, ◌+ℤ◌, ◌-ℤ◌, ◌*ℤ◌}
use lib.Signed.{non_neg}
use Rattle.model.specs.declared.Point.{Point}
use Rattle.model.specs.declared.Sighting.{Sighting}
use Rattle.model.specs.declared.Refusal.{Refusal}
use Rattle.model.specs.declared.Placed.TheVariants.{At, Refused as PlacedRefused}
use Rattle.model.specs.declared.Outcome.{Outcome}
use Rattle.model.specs.declared.Outcome.TheVariants.{Done, Refused}
use Rattle.model.specs.Rounding.{ONE}
use Rattle.model.specs.Refusals.{verdict, or_refused, refusal, number}
use Rattle.model.specs.Acceptance.{unit_square, unit_slack, in_frame, is_unit}
use Rattle.model.specs.Answers.{answer_if, answer_after, answer_of}
use Rattle.model.specs.Sightings.{turned, turned_of, sighted_of, longest_sight, is_sight, sight_rules, sight_question}
use Rattle.integers.proofs.Order.{clash}
use Rattle.model.proofs.Verdict.{done→all}
use Rattle.model.proofs.Answers.{told_exactly, sight_tells}
use Rattle.model.proofs.Reasons.{first_holds, rest_hold}
use Rattle.rounding.proofs.Sizes.{near_turn}
use Rattle.elements.proofs.Extent.{unit_within, unit_within'}
use Rattle.plane.proofs.Frame.{framed}
use Rattle.sightings.specs.SightRanges.{Pair, Sightable, placed_by}

module _ (k : Sighting) where
  abbrev pub backsight_unit : Bool
  backsight_unit = is_unit k.backsight_c k.backsight_s

  abbrev pub angle_unit : Bool
  angle_unit = is_unit k.angle_c k.angle_s

  abbrev pub place_framed : Bool
  place_framed = in_frame k.x k.y

  -- ---- the first rule that fails

  pub no_backsight : backsight_unit ≡ false → verdict (sight_rules k) ≡ Refused (record { number = 7; place = 0 })
  unfolding sight_rules verdict or_refused refusal number
  no_backsight h = rw h

  module _ (b : backsight_unit ≡ true) where
    pub no_angle : angle_unit ≡ false → verdict (sight_rules k) ≡ Refused (record { number = 7; place = 0 })
    unfolding sight_rules verdict or_refused refusal number
    no_angle h = rw (b, h)

    module _ (a : angle_unit ≡ true) where
      pub no_place : place_framed ≡ false → verdict (sight_rules k) ≡ Refused (record { number = 11; place = 0 })
      unfolding sight_rules verdict or_refused refusal number
      no_place h = rw (b, a, h)

      module _ (p : place_framed ≡ true) where
        pub no_distance : is_sight k.distance ≡ false → verdict (sight_rules k) ≡ Refused (record { number = 15; place = 0 })
        unfolding sight_rules verdict or_refused refusal number
        no_distance h = rw (b, a, p, h)

        pub all_hold : is_sight k.distance ≡ true → verdict (sight_rules k) ≡ Done
        unfolding sight_rules verdict or_refused refusal number
        all_hold h = rw (b, a, p, h)

  -- ---- what is sighted: the sighting's own refusal, or its point and direction

  pub sight_refused : {why : Refusal} → verdict (sight_rules k) ≡ Refused why → answer_of (sight_question k) ≡ PlacedRefused why
  unfolding answer_after answer_if sight_question
  sight_refused e = rw e

  pub sight_placed : verdict (sight_rules k) ≡ Done → answer_of (sight_question k) ≡ placed_by k
  unfolding answer_after answer_if sight_question placed_by
  sight_placed e = rw e

  pub refused_sight : {why : Refusal} → answer_of (sight_question k) ≡ PlacedRefused why → verdict (sight_rules k) ≡ Refused why
  unfolding sight_question
  refused_sight {why} e = (told_exactly (sight_tells k) [] why).0 e

  pub placed_sight : {x y tx ty : ℤ} → answer_of (sight_question k) ≡ At x y tx ty → (verdict (sight_rules k) ≡ Done) × (sighted_of k ≡ record { x = x; y = y }) × (turned_of k ≡ record { x = tx; y = ty })
  unfolding placed_by
  placed_sight {x} {y} {tx} {ty} e = go (verdict (sight_rules k)) refl
    where
      go : (o : Outcome) → verdict (sight_rules k) ≡ o → (verdict (sight_rules k) ≡ Done) × (sighted_of k ≡ record { x = x; y = y }) × (turned_of k ≡ record { x = tx; y = ty })
      go Done d = let s = sym (sight_placed d) ∙ e in (d, at_point s, at_direction s)
        where
          at_point : At (sighted_of k).x (sighted_of k).y (turned_of k).x (turned_of k).y ≡ At x y tx ty → sighted_of k ≡ record { x = x; y = y }
          at_point s = let p : (sighted_of k).x ≡ x = cc in let q : (sighted_of k).y ≡ y = cc in ap₂ (λ (a b : ℤ). record { x = a; y = b }) p q

          at_direction : At (sighted_of k).x (sighted_of k).y (turned_of k).x (turned_of k).y ≡ At x y tx ty → turned_of k ≡ record { x = tx; y = ty }
          at_direction s = let p : (turned_of k).x ≡ tx = cc in let q : (turned_of k).y ≡ ty = cc in ap₂ (λ (a b : ℤ). record { x = a; y = b }) p q
      go (Refused why) d = let r = sight_refused d in clash cc

  -- ---- how large the numbers are

  pub sightable : verdict (sight_rules k) ≡ Done → Sightable k
  unfolding sight_rules is_unit is_sight
  sightable e =
      let first = done→all _ e in
      let second = rest_hold first in
      let third = rest_hold second in
      let fourth = rest_hold third in
      let b : nat_abs (k.backsight_c *ℤ k.backsight_c +ℤ k.backsight_s *ℤ k.backsight_s -ℤ pos unit_square) ≤ unit_slack = leb-true _ _ (first_holds first) in
      let a : nat_abs (k.angle_c *ℤ k.angle_c +ℤ k.angle_s *ℤ k.angle_s -ℤ pos unit_square) ≤ unit_slack = leb-true _ _ (first_holds second) in
      let p = framed (record { x = k.x; y = k.y }) (first_holds third) in
      let d = (and-eq-true_iff (non_neg k.distance) (leb (nat_abs k.distance) longest_sight)).0 (first_holds fourth) in
      record {
        backsight = record { first = unit_within k.backsight_c k.backsight_s b; second = unit_within' k.backsight_c k.backsight_s b };
        angle = record { first = unit_within k.angle_c k.angle_s a; second = unit_within' k.angle_c k.angle_s a };
        x = p.x;
        y = p.y;
        length = leb-true _ _ d.1;
      }

-- a turned direction is no unit any more, but its components are at most 2 · ONE
pub turned_small : (d a : Point) → Pair d → Pair a → (nat_abs (turned d a).x ≤ 2 * ONE) × (nat_abs (turned d a).y ≤ 2 * ONE)
unfolding turned
turned_small d a u v =
    ((near_turn 1 d.x a.x d.y a.y u.first u.second v.first v.second).0, (near_turn 1 d.y a.x d.x a.y u.second u.first v.first v.second).1)
