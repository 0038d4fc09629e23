-- Document 02, request 1, of a sighting: "Refusals: after the crest's own, 7 for either pair, 11 for K, 15 for the distance, 11 for the point, in that order; then 12 to 14 as before, or
-- 11 for the move's target." When each number is given, on a crest of any source, by a C call on a run, and of the move; and that a sighting comes to what its point does.
use Prim.Native.Nat.{ℕ, ◌+◌, ◌*◌, ◌≤◌}
use mathlib.Core.Bool.{Bool, true, false}
use mathlib.Core.List.{List, [], ◌∷◌, ◌++◌}
use mathlib.Core.Logic.Iff
use mathlib.Core.Logic.{◌≢◌, ◌⊎◌, inl, inr, ⊎_map, ◌↔◌}
use mathlib.Core.Path.{◌≡◌, refl, sym, ◌∙◌, ap, ap₂}
use native.Mathlib.Omega.{arith}
use lib.Ieee.{Float}
use lib.IntN.{ℤ, nat_abs, neg_ℤ, ◌-ℤ◌}
use lib.ListN.{length}
use Rattle.integers.proofs.Order.{clash}
use Rattle.model.specs.declared.Element.{Element}
use Rattle.model.specs.declared.Point.{Point}
use Rattle.model.specs.declared.Refusal.{Refusal}
use Rattle.model.specs.declared.Outcome.TheVariants.{Done, Refused}
use Rattle.model.specs.declared.Located.TheVariants.{Refused as LocatedRefused}
use Rattle.model.specs.declared.Move.TheVariants.{By, Refused as MoveRefused}
use Rattle.model.specs.declared.Reading.TheVariants.{PlanePoint}
use Rattle.model.specs.declared.Sighting.{Sighting}
use Rattle.model.specs.declared.ReadingAnswer.TheVariants.{PlanePoint as AnswerPoint, Refused as AnswerRefused}
use Rattle.model.specs.Refusals.{Reason, Rule, rule₀, number, refusal, not_whole, not_unit, outside_frame, too_far, before_start, after_end, asked_out_of_range, run_full, wrong_room, Gives, or_refused, verdict}
use Rattle.model.specs.Acceptance.{in_frame}
use Rattle.model.specs.Crest.{Crest, check_of, is_own, SoundCrest}
use Rattle.model.specs.Judged.{judged}
use Rattle.model.specs.Answers.{point_rules, point_question, located, end_rules, forward_of, left_of}
use Rattle.model.specs.Readings.{whole, whole_of, is_whole, value_of, from_located, answer_to, display_of}
use Rattle.model.specs.Sightings.{turned_of, sighted_of, sight_rules, sighting_question, sighted_to, sighted_move_rules, sighted_move_question, sighted_move}
use Rattle.model.specs.declared.Run.{Run}
use Rattle.model.specs.Run.{is_full, run_at, noted}
use Rattle.model.specs.Calls.{reading_call, sighting_stake_out_call}
use Rattle.model.specs.Histories.{sighting}
use Rattle.model.proofs.Answers.{told_exactly, told_answered, point_tells, sighting_tells, sighted_move_tells}
use Rattle.model.proofs.Reasons.{Lacks, empty, other, lacks-++, lacks_other, lacks→not_given}
use Rattle.walk_laws.proofs.Outcomes.{TooFar, BeforeStart, AfterEnd, Answered, outside_frame_lem, crest_too_far, crest_before_start, crest_after_end}
use Rattle.sightings.proofs.BackAgain.{place_of, back_forward, back_left}
use Rattle.demands.proofs.Places.{two_parts, first_part, second_part}
use Rattle.demands.proofs.RefusalTable.{not_own, move_call_refused_18, move_call_refused}
use Rattle.demands.proofs.AfterNumbers.{came_as, came_refused, given_as, never_refused, point_answered}
use Rattle.demands.proofs.ReadingRefusals.{point_reading, call_returns, call_given}
use Rattle.demands.proofs.SightOrders.{Units, NoUnit, Stands, InReach, OutOfReach, Sights, sight_done, sight_7, sight_11, sight_15, sight_holds, sight_lacks}

-- ---- on a crest of any source

module _ (c : Crest) (own : Gives is_own c.rules) (k : Sighting) where
  abbrev es : List Element
  es = c.elements

  abbrev p : Point
  p = sighted_of k

  -- the rules of its point
  abbrev after : List Rule
  after = point_rules es p (judged es p)

  order_of : (w : Refusal) → (sighted_to c k ≡ AnswerRefused w) ↔ (verdict (c.rules ++ (sight_rules k ++ after)) ≡ Refused w)
  unfolding sighting_question point_question
  order_of w = came_refused c (sight_rules k) own from_located _ (point_tells p es) (sighting_tells k es) w

  after_lacks : {n : ℕ} → n ≢ 11 → n ≢ 12 → n ≢ 13 → n ≢ 14 → Lacks n after
  unfolding point_rules number
  after_lacks a b d e = other (λ f. a (sym f)) (other (λ f. b (sym f)) (other (λ f. d (sym f)) (other (λ f. e (sym f)) empty)))

  later : (why : Reason) → is_own (number why) ≡ false → (sighted_to c k ≡ AnswerRefused (refusal why 0)) ↔ ((check_of c ≡ Done) × (verdict (sight_rules k ++ after) ≡ Refused (refusal why 0)))
  unfolding refusal
  later why h = Iff.trans (order_of (refusal why 0)) (second_part c.rules (sight_rules k ++ after) (refusal why 0) (lacks_other own h))

  -- "A sighting's whole answer on a crest is that of its point"
  pub sighting_as_point : Sights k → sighted_to c k ≡ from_located (located c (sighted_of k))
  unfolding sighting_question point_question from_located
  sighting_as_point s = came_as c (sight_rules k) from_located _ (λ why. refl) ((sight_holds k).1 s)

  -- and that of a plane reading of the point's numbers
  pub sighting_as_reading : Sights k → (x y : Float) → whole_of x ≡ whole (sighted_of k).x → whole_of y ≡ whole (sighted_of k).y → sighted_to c k ≡ answer_to c (PlanePoint x y)
  unfolding is_whole value_of
  sighting_as_reading s x y e f =
      sighting_as_point s
      ∙ ap₂ (λ (a b : ℤ). from_located (located c (record { x = a; y = b }))) (sym (ap value_of e)) (sym (ap value_of f))
      ∙ sym (point_reading c own x y (ap is_whole e, ap is_whole f))

  -- it is answered exactly when the crest and the sighting refuse nothing and its point meets no refusal; "the station answered is the one judged"
  pub sighting_answered : (station : ℕ) (offset residual : ℤ) (count : ℕ) →
      (sighted_to c k ≡ AnswerPoint station offset residual count) ↔ ((check_of c ≡ Done) × Sights k × Answered c.elements (sighted_of k) station offset residual count)
  unfolding sighting_question
  sighting_answered = point_answered c (sight_rules k) own (sight_holds k) (sighted_of k)

  -- 1 to 9 but 7: as the crest
  pub sighting_refused_own : (w : Refusal) → is_own w.number ≡ true → w.number ≢ 7 → (sighted_to c k ≡ AnswerRefused w) ↔ (check_of c ≡ Refused w)
  unfolding number is_own
  sighting_refused_own w h not-7 =
      Iff.trans (order_of w)
      (first_part c.rules (sight_rules k ++ after) w
      (lacks-++ (sight_lacks k not-7 (λ e. not_own outside_frame h refl (sym e)) (λ e. not_own asked_out_of_range h refl (sym e)))
      (after_lacks (λ e. not_own outside_frame h refl (sym e)) (λ e. not_own too_far h refl (sym e)) (λ e. not_own before_start h refl (sym e)) (λ e. not_own after_end h refl (sym e)))))

  -- 7: of a record of the crest, or of either pair, which has no place
  pub sighting_refused_7 : (place : ℕ) → (sighted_to c k ≡ AnswerRefused (refusal not_unit place)) ↔ ((check_of c ≡ Refused (refusal not_unit place)) ⊎ ((check_of c ≡ Done) × (place ≡ 0) × NoUnit k))
  unfolding number refusal
  sighting_refused_7 place =
      let lacks : Lacks 7 after = after_lacks (λ e. omega arith) (λ e. omega arith) (λ e. omega arith) (λ e. omega arith) in
      let pairs = sight_7 k after lacks place in
      Iff.trans (order_of (refusal not_unit place)) (Iff.trans (two_parts c.rules (sight_rules k ++ after) (refusal not_unit place)) (
        ⊎_map (λ e. e) (λ x. let y = pairs.0 x.1 in (x.0, y.0, y.1)),
        ⊎_map (λ e. e) (λ x. (x.0, pairs.1 (x.1, x.2))),
      ))

  -- 11: of the place of the instrument, or of the point
  pub sighting_refused_11 : (sighted_to c k ≡ AnswerRefused (refusal outside_frame 0))
      ↔ ((check_of c ≡ Done) × Units k × ((in_frame k.x k.y ≡ false) ⊎ (Stands k × InReach k × (in_frame (sighted_of k).x (sighted_of k).y ≡ false))))
  unfolding number is_own point_question
  sighting_refused_11 =
      let point = Iff.trans (Iff.symm (told_exactly (point_tells p es) [] (refusal outside_frame 0))) (outside_frame_lem es p) in
      let both = sight_11 k after in
      Iff.trans (later outside_frame refl) (
        (λ x. let y = both.0 x.1 in (x.0, y.0, ⊎_map (λ e. e) (λ z. (z.0, z.1, point.0 z.2)) y.1)),
        (λ x. (x.0, both.1 (x.1, ⊎_map (λ e. e) (λ z. (z.0, z.1, point.1 z.2)) x.2))),
      )

  -- 15: of the distance
  pub sighting_refused_15 : (sighted_to c k ≡ AnswerRefused (refusal asked_out_of_range 0)) ↔ ((check_of c ≡ Done) × Units k × Stands k × OutOfReach k)
  unfolding number is_own
  sighting_refused_15 =
      let out = sight_15 k after (after_lacks (λ e. omega arith) (λ e. omega arith) (λ e. omega arith) (λ e. omega arith)) in
      Iff.trans (later asked_out_of_range refl) ((λ x. let y = out.0 x.1 in (x.0, y.0, y.1, y.2)), (λ x. (x.0, out.1 (x.1, x.2, x.3))))

  -- 12, 13 and 14: at the station judged of its point
  judged_so : (why : Reason) {C : Type 0} → is_own (number why) ≡ false → Lacks (number why) (sight_rules k) → ((located c (sighted_of k) ≡ LocatedRefused (refusal why 0)) ↔ ((check_of c ≡ Done) × C)) →
      (sighted_to c k ≡ AnswerRefused (refusal why 0)) ↔ ((check_of c ≡ Done) × Sights k × C)
  unfolding sighting_question
  judged_so why h lacks given = given_as c (sight_rules k) own from_located _ (point_tells p es) (sighting_tells k es) why h lacks (sight_holds k) given

  pub sighting_refused_12 : (sighted_to c k ≡ AnswerRefused (refusal too_far 0)) ↔ ((check_of c ≡ Done) × Sights k × TooFar c.elements (sighted_of k))
  unfolding number is_own
  sighting_refused_12 = judged_so too_far refl (sight_lacks k (λ e. omega arith) (λ e. omega arith) (λ e. omega arith)) (crest_too_far c own (sighted_of k))

  pub sighting_refused_13 : (sighted_to c k ≡ AnswerRefused (refusal before_start 0)) ↔ ((check_of c ≡ Done) × Sights k × BeforeStart c.elements (sighted_of k))
  unfolding number is_own
  sighting_refused_13 = judged_so before_start refl (sight_lacks k (λ e. omega arith) (λ e. omega arith) (λ e. omega arith)) (crest_before_start c own (sighted_of k))

  pub sighting_refused_14 : (sighted_to c k ≡ AnswerRefused (refusal after_end 0)) ↔ ((check_of c ≡ Done) × Sights k × AfterEnd c.elements (sighted_of k))
  unfolding number is_own
  sighting_refused_14 = judged_so after_end refl (sight_lacks k (λ e. omega arith) (λ e. omega arith) (λ e. omega arith)) (crest_after_end c own (sighted_of k))

  -- 10 is no sighting's: its numbers are whole
  pub sighting_not_10 : (w : Refusal) → w.number ≡ 10 → sighted_to c k ≢ AnswerRefused w
  unfolding sighting_question point_question number is_own
  sighting_not_10 w e =
      never_refused c (sight_rules k) own from_located _ (point_tells p es) (sighting_tells k es) w (ap is_own e) (sight_lacks k (λ f. omega arith) (λ f. omega arith) (λ f. omega arith))
      (after_lacks (λ f. omega arith) (λ f. omega arith) (λ f. omega arith) (λ f. omega arith))

-- ---- by the C call on a run

module _ (c : Crest) (sound : SoundCrest c) (k : Sighting) (run : List ℕ) where
  pub sighting_call_refused_7 : (place : ℕ) → ((reading_call (sighted_to c k) run).0 ≡ 7 + 256 * place)
      ↔ ((length run ≡ 24) × (is_full (run_at run) ≡ false) × ((check_of c ≡ Refused (refusal not_unit place)) ⊎ ((check_of c ≡ Done) × (place ≡ 0) × NoUnit k)))
  unfolding number
  sighting_call_refused_7 place =
      let pairs = sighting_refused_7 c sound.own k place in
      Iff.trans (call_returns (sighting c sound k) run not_unit place (λ e. omega arith) (λ e. omega arith)) ((λ x. (x.0, x.1, pairs.0 x.2)), (λ x. (x.0, x.1, pairs.1 x.2)))

  pub sighting_call_refused_11 : ((reading_call (sighted_to c k) run).0 ≡ 11) ↔ ((length run ≡ 24) × (is_full (run_at run) ≡ false)
      × ((check_of c ≡ Done) × Units k × ((in_frame k.x k.y ≡ false) ⊎ (Stands k × InReach k × (in_frame (sighted_of k).x (sighted_of k).y ≡ false)))))
  unfolding number
  sighting_call_refused_11 = call_given (sighting c sound k) run outside_frame (λ e. omega arith) (λ e. omega arith) (sighting_refused_11 c sound.own k)

  pub sighting_call_refused_12 : ((reading_call (sighted_to c k) run).0 ≡ 12) ↔ ((length run ≡ 24) × (is_full (run_at run) ≡ false) × ((check_of c ≡ Done) × Sights k × TooFar c.elements (sighted_of k)))
  unfolding number
  sighting_call_refused_12 = call_given (sighting c sound k) run too_far (λ e. omega arith) (λ e. omega arith) (sighting_refused_12 c sound.own k)

  pub sighting_call_refused_13 : ((reading_call (sighted_to c k) run).0 ≡ 13) ↔ ((length run ≡ 24) × (is_full (run_at run) ≡ false) × ((check_of c ≡ Done) × Sights k × BeforeStart c.elements (sighted_of k)))
  unfolding number
  sighting_call_refused_13 = call_given (sighting c sound k) run before_start (λ e. omega arith) (λ e. omega arith) (sighting_refused_13 c sound.own k)

  pub sighting_call_refused_14 : ((reading_call (sighted_to c k) run).0 ≡ 14) ↔ ((length run ≡ 24) × (is_full (run_at run) ≡ false) × ((check_of c ≡ Done) × Sights k × AfterEnd c.elements (sighted_of k)))
  unfolding number
  sighting_call_refused_14 = call_given (sighting c sound k) run after_end (λ e. omega arith) (λ e. omega arith) (sighting_refused_14 c sound.own k)

  pub sighting_call_refused_15 : ((reading_call (sighted_to c k) run).0 ≡ 15) ↔ ((length run ≡ 24) × (is_full (run_at run) ≡ false) × ((check_of c ≡ Done) × Units k × Stands k × OutOfReach k))
  unfolding number
  sighting_call_refused_15 = call_given (sighting c sound k) run asked_out_of_range (λ e. omega arith) (λ e. omega arith) (sighting_refused_15 c sound.own k)

  -- 1 to 9 but 7: as the crest, with its place
  pub sighting_call_refused_own : (why : Reason) (place : ℕ) → is_own (number why) ≡ true → number why ≢ 7 → ((reading_call (sighted_to c k) run).0 ≡ number why + 256 * place)
      ↔ ((length run ≡ 24) × (is_full (run_at run) ≡ false) × (check_of c ≡ Refused (refusal why place)))
  unfolding refusal is_own number
  sighting_call_refused_own why place h not-7 =
      let as-crest = sighting_refused_own c sound.own k (refusal why place) h not-7 in
      Iff.trans (call_returns (sighting c sound k) run why place (λ e. not_own run_full h refl (sym e)) (λ e. not_own wrong_room h refl (sym e))) ((λ x. (x.0, x.1, as-crest.0 x.2)), (λ x. (x.0, x.1, as-crest.1 x.2)))

  -- 10 is never returned
  pub sighting_call_not_10 : (place : ℕ) → (reading_call (sighted_to c k) run).0 ≢ 10 + 256 * place
  unfolding number refusal
  sighting_call_not_10 place e =
      sighting_not_10 c sound.own k (refusal not_whole place) refl ((call_returns (sighting c sound k) run not_whole place (λ f. omega arith) (λ f. omega arith)).0 e).2

-- ---- "a run counts it like a plane point", with its display pair: as the reading of the point's numbers, by value and as bytes

module _ (c : Crest) (own : Gives is_own c.rules) (k : Sighting) (taken : Sights k) (x y : Float) (ex : whole_of x ≡ whole (sighted_of k).x) (ey : whole_of y ≡ whole (sighted_of k).y) where
  pub sighting_displayed : display_of (sighted_to c k) ≡ display_of (answer_to c (PlanePoint x y))
  sighting_displayed = ap display_of (sighting_as_reading c own k taken x y ex ey)

  pub sighting_noted : (run : Run) → noted (sighted_to c k) run ≡ noted (answer_to c (PlanePoint x y)) run
  sighting_noted run = ap (λ a. noted a run) (sighting_as_reading c own k taken x y ex ey)

  pub sighting_counted : (run : List ℕ) → reading_call (sighted_to c k) run ≡ reading_call (answer_to c (PlanePoint x y)) run
  sighting_counted run = ap (λ a. reading_call a run) (sighting_as_reading c own k taken x y ex ey)

-- ---- of the move

-- the rules of its two ends
ends_by : (o t : Bool) → (verdict (rule₀ outside_frame o ∷ rule₀ outside_frame t ∷ []) ≡ Refused (refusal outside_frame 0)) ↔ ((o ≡ false) ⊎ ((o ≡ true) × (t ≡ false)))
unfolding verdict or_refused
ends_by true true = ((λ e. clash cc), go)
  where
    go : (true ≡ false) ⊎ ((true ≡ true) × (true ≡ false)) → Done ≡ Refused (refusal outside_frame 0)
    go (inl e) = clash cc
    go (inr x) = clash cc
ends_by true false = ((λ e. inr (refl, refl)), (λ x. refl))
ends_by false t = ((λ e. inl refl), (λ x. refl))

ends_hold : (o t : Bool) → (verdict (rule₀ outside_frame o ∷ rule₀ outside_frame t ∷ []) ≡ Done) ↔ ((o ≡ true) × (t ≡ true))
unfolding verdict or_refused
ends_hold true true = ((λ e. (refl, refl)), (λ x. refl))
ends_hold true false = ((λ e. clash cc), (λ x. clash cc))
ends_hold false t = ((λ e. clash cc), (λ x. clash cc))

-- "has that point as own point and faces from prism to instrument: both components of the turned direction are negated": forward and left
abbrev pub moved_to : Sighting → Point → ℤ × ℤ
moved_to k target =
    (forward_of (sighted_of k) target (neg_ℤ (turned_of k).x) (neg_ℤ (turned_of k).y), left_of (sighted_of k) target (neg_ℤ (turned_of k).x) (neg_ℤ (turned_of k).y))

module _ (k : Sighting) (target : Point) where
  abbrev ends : List Rule
  ends = end_rules (sighted_of k) target

  move_order : (w : Refusal) → (sighted_move k target ≡ MoveRefused w) ↔ (verdict (sight_rules k ++ ends) ≡ Refused w)
  unfolding sighted_move_question sighted_move_rules
  move_order w = told_exactly (sighted_move_tells k target) [] w

  ends_lack : {n : ℕ} → n ≢ 11 → Lacks n ends
  unfolding number
  ends_lack h = other (λ e. h (sym e)) (other (λ e. h (sym e)) empty)

  pub sighted_move_refused_7 : (sighted_move k target ≡ MoveRefused (refusal not_unit 0)) ↔ NoUnit k
  sighted_move_refused_7 =
      let pairs = sight_7 k ends (ends_lack (λ e. omega arith)) 0 in
      Iff.trans (move_order (refusal not_unit 0)) ((λ e. (pairs.0 e).1), (λ x. pairs.1 (refl, x)))

  -- of the place of the instrument, of the point, and of the target
  pub sighted_move_refused_11 : (sighted_move k target ≡ MoveRefused (refusal outside_frame 0))
      ↔ (Units k × ((in_frame k.x k.y ≡ false) ⊎ (Stands k × InReach k
      × ((in_frame (sighted_of k).x (sighted_of k).y ≡ false) ⊎ ((in_frame (sighted_of k).x (sighted_of k).y ≡ true) × (in_frame target.x target.y ≡ false))))))
  sighted_move_refused_11 =
      let both = ends_by (in_frame (sighted_of k).x (sighted_of k).y) (in_frame target.x target.y) in
      let first = sight_11 k ends in
      Iff.trans (move_order (refusal outside_frame 0)) (
        (λ e. let y = first.0 e in (y.0, ⊎_map (λ f. f) (λ z. (z.0, z.1, both.0 z.2)) y.1)),
        (λ x. first.1 (x.0, ⊎_map (λ f. f) (λ z. (z.0, z.1, both.1 z.2)) x.1)),
      )

  pub sighted_move_refused_15 : (sighted_move k target ≡ MoveRefused (refusal asked_out_of_range 0)) ↔ (Units k × Stands k × OutOfReach k)
  sighted_move_refused_15 = Iff.trans (move_order (refusal asked_out_of_range 0)) (sight_15 k ends (ends_lack (λ e. omega arith)))

  -- no other number is given
  pub sighted_move_only : (w : Refusal) → w.number ≢ 7 → w.number ≢ 11 → w.number ≢ 15 → sighted_move k target ≢ MoveRefused w
  sighted_move_only w not-7 not-11 not-15 e = lacks→not_given (lacks-++ (sight_lacks k not-7 not-11 not-15) (ends_lack not-11)) ((move_order w).0 e)

  pub sighted_move_moves : (sighted_move k target ≡ By (moved_to k target).0 (moved_to k target).1)
      ↔ (Sights k × (in_frame (sighted_of k).x (sighted_of k).y ≡ true) × (in_frame target.x target.y ≡ true))
  unfolding sighted_move_question sighted_move_rules
  sighted_move_moves =
      let both = ends_hold (in_frame (sighted_of k).x (sighted_of k).y) (in_frame target.x target.y) in
      let all = sight_done k ends in
      Iff.trans (told_answered (sighted_move_tells k target) []) (
        (λ e. let y = all.0 e in let z = both.0 y.1 in (y.0, z.0, z.1)),
        (λ x. all.1 (x.0, both.1 (x.1, x.2))),
      )

-- so a stake that is to go to the instrument's own place is sent forward by the distance and left by nothing, each to at most one grain, whatever the angle
pub sighted_move_back : (k : Sighting) → Sights k → in_frame (sighted_of k).x (sighted_of k).y ≡ true →
    (sighted_move k (place_of k) ≡ By (moved_to k (place_of k)).0 (moved_to k (place_of k)).1) × (nat_abs ((moved_to k (place_of k)).0 -ℤ k.distance) ≤ 1) × (nat_abs (moved_to k (place_of k)).1 ≤ 1)
sighted_move_back k taken inside =
    let holds = (sight_holds k).1 taken in
    ((sighted_move_moves k (place_of k)).1 (taken, inside, taken.1), back_forward k holds, back_left k holds)

-- by the C call
module _ (k : Sighting) (target : Point) (room : List ℕ) where
  pub sighting_stake_out_call_refused_18 : ((sighting_stake_out_call k target room).0 ≡ 18) ↔ (length room ≢ 8)
  unfolding sighting_stake_out_call sighted_move_question sighted_move_rules
  sighting_stake_out_call_refused_18 =
      move_call_refused_18 (sighted_move_tells k target) room (lacks-++ (sight_lacks k (λ e. omega arith) (λ e. omega arith) (λ e. omega arith)) (ends_lack k target (λ e. omega arith)))

  pub sighting_stake_out_call_refused_7 : ((sighting_stake_out_call k target room).0 ≡ 7) ↔ ((length room ≡ 8) × NoUnit k)
  unfolding sighting_stake_out_call number
  sighting_stake_out_call_refused_7 = Iff.trans (move_call_refused (sighted_move_tells k target) room not_unit (omega arith)) (Iff.and Iff.rfl (sighted_move_refused_7 k target))

  pub sighting_stake_out_call_refused_11 : ((sighting_stake_out_call k target room).0 ≡ 11) ↔ ((length room ≡ 8) × (Units k × ((in_frame k.x k.y ≡ false) ⊎ (Stands k × InReach k
      × ((in_frame (sighted_of k).x (sighted_of k).y ≡ false) ⊎ ((in_frame (sighted_of k).x (sighted_of k).y ≡ true) × (in_frame target.x target.y ≡ false)))))))
  unfolding sighting_stake_out_call number
  sighting_stake_out_call_refused_11 = Iff.trans (move_call_refused (sighted_move_tells k target) room outside_frame (omega arith)) (Iff.and Iff.rfl (sighted_move_refused_11 k target))

  pub sighting_stake_out_call_refused_15 : ((sighting_stake_out_call k target room).0 ≡ 15) ↔ ((length room ≡ 8) × (Units k × Stands k × OutOfReach k))
  unfolding sighting_stake_out_call number
  sighting_stake_out_call_refused_15 = Iff.trans (move_call_refused (sighted_move_tells k target) room asked_out_of_range (omega arith)) (Iff.and Iff.rfl (sighted_move_refused_15 k target))

  -- no other number is returned
  pub sighting_stake_out_call_only : (why : Reason) → number why ≢ 18 → number why ≢ 7 → number why ≢ 11 → number why ≢ 15 → (sighting_stake_out_call k target room).0 ≢ number why
  unfolding sighting_stake_out_call refusal
  sighting_stake_out_call_only why not-18 not-7 not-11 not-15 e =
      sighted_move_only k target (refusal why 0) not-7 not-11 not-15 ((move_call_refused (sighted_move_tells k target) room why not-18).0 e).1
