-- The move of a sighting in the order of its rules: the sighting's own, 11 for its point, 11 for the target, then the move back; and how large it is.
use Prim.Native.Nat.{◌*◌, ◌≤◌}
use mathlib.Core.Bool.{true, false}
use mathlib.Core.Path.{◌≡◌, refl, sym, ap, ◌∙◌}
use native.Mathlib.Omega.{arith}
use lib.IntN.{ℤ, nat_abs, neg_ℤ}
use Rattle.integers.proofs.Abs.{nat_abs_neg}
use Rattle.integers.proofs.Order.{clash}
use Rattle.model.specs.declared.Point.{Point}
use Rattle.model.specs.declared.Refusal.{Refusal}
use Rattle.model.specs.declared.Outcome.{Outcome}
use Rattle.model.specs.declared.Outcome.TheVariants.{Done, Refused}
use Rattle.model.specs.declared.Move.TheVariants.{By, Refused as MoveRefused}
use Rattle.model.specs.declared.Sighting.{Sighting}
use Rattle.model.specs.Refusals.{verdict, or_refused, refusal, number}
use Rattle.model.specs.Acceptance.{frame, in_frame}
use Rattle.model.specs.Answers.{answer_if, answer_after, end_rules, forward_of, left_of}
use Rattle.model.specs.Sightings.{backsight_of, angle_of, turned_of, sighted_of, sight_rules, sighted_move_rules, sighted_move_question, sighted_move}
use Rattle.model.proofs.Verdict.{verdict_after, refused_before, done→all}
use Rattle.model.proofs.Reasons.{first_holds, rest_hold}
use Rattle.plane.proofs.Frame.{framed}
use Rattle.stakes.specs.StakeRanges.{Stakeable}
use Rattle.stakes.proofs.StakeAnswers.{moved_small}
use Rattle.sightings.specs.SightRanges.{Facing, back_if, moved_back}
use Rattle.sightings.proofs.SightAnswers.{sightable, turned_small}

-- ---- the two points

module _ (own target : Point) (tx ty : ℤ) where
  pub own_outside : in_frame own.x own.y ≡ false → moved_back own target tx ty ≡ MoveRefused (record { number = 11; place = 0 })
  unfolding back_if verdict or_refused refusal number
  own_outside h = rw h

  module _ (f : in_frame own.x own.y ≡ true) where
    pub target_outside : in_frame target.x target.y ≡ false → moved_back own target tx ty ≡ MoveRefused (record { number = 11; place = 0 })
    unfolding back_if verdict or_refused refusal number
    target_outside h = rw (f, h)

    pub moves_back : in_frame target.x target.y ≡ true → moved_back own target tx ty ≡ By (forward_of own target (neg_ℤ tx) (neg_ℤ ty)) (left_of own target (neg_ℤ tx) (neg_ℤ ty))
    unfolding back_if verdict or_refused
    moves_back h = rw (f, h)

    pub back_stakeable : Facing tx ty → in_frame target.x target.y ≡ true → Stakeable own target (neg_ℤ tx) (neg_ℤ ty)
    back_stakeable t g =
        record { from = framed own f; to = framed target g; first = omega (arith, nat_abs_neg tx, t.first); second = omega (arith, nat_abs_neg ty, t.second) }

  -- a move back fits an i32
  pub back_small : Facing tx ty → {forward left : ℤ} → moved_back own target tx ty ≡ By forward left → (nat_abs forward ≤ 8 * frame) × (nat_abs left ≤ 8 * frame)
  unfolding back_if
  back_small t {forward} {left} e = go (verdict (end_rules own target)) refl e
    where
      go : (o : Outcome) → verdict (end_rules own target) ≡ o → back_if o own target tx ty ≡ By forward left → (nat_abs forward ≤ 8 * frame) × (nat_abs left ≤ 8 * frame)
      go Done d e =
          let a = done→all (end_rules own target) d in
          moved_small own target (neg_ℤ tx) (neg_ℤ ty) (back_stakeable (first_holds a) t (first_holds (rest_hold a))) e
      go (Refused why) d e = clash cc

-- ---- after the sighting's own rules

module _ (k : Sighting) (target : Point) where
  pub move_refused : {why : Refusal} → verdict (sight_rules k) ≡ Refused why → sighted_move k target ≡ MoveRefused why
  unfolding answer_after answer_if sighted_move_question sighted_move_rules
  move_refused e = rw (refused_before (sight_rules k) (end_rules (sighted_of k) target) e)

  by : (o : Outcome) → answer_if o (sighted_move_question k target) ≡ back_if o (sighted_of k) target (turned_of k).x (turned_of k).y
  unfolding answer_if sighted_move_question back_if
  by Done = refl
  by (Refused why) = refl

  pub move_back : verdict (sight_rules k) ≡ Done → sighted_move k target ≡ moved_back (sighted_of k) target (turned_of k).x (turned_of k).y
  unfolding answer_after sighted_move_question sighted_move_rules
  move_back e = ap (λ o. answer_if o (sighted_move_question k target)) (verdict_after (sight_rules k) (end_rules (sighted_of k) target) e) ∙ by _

  pub turned_faces : verdict (sight_rules k) ≡ Done → Facing (turned_of k).x (turned_of k).y
  unfolding turned_of
  turned_faces e =
      let s = sightable k e in
      let t = turned_small (backsight_of k) (angle_of k) s.backsight s.angle in
      record { first = t.0; second = t.1 }

  -- what is answered fits an i32
  pub sighted_move_small : {forward left : ℤ} → sighted_move k target ≡ By forward left → (nat_abs forward ≤ 8 * frame) × (nat_abs left ≤ 8 * frame)
  sighted_move_small {forward} {left} e = go (verdict (sight_rules k)) refl
    where
      go : (o : Outcome) → verdict (sight_rules k) ≡ o → (nat_abs forward ≤ 8 * frame) × (nat_abs left ≤ 8 * frame)
      go Done d = back_small (sighted_of k) target (turned_of k).x (turned_of k).y (turned_faces d) (sym (move_back d) ∙ e)
      go (Refused why) d = let r = move_refused d in clash cc
