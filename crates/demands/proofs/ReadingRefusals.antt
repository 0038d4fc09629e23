-- Document 01, "Refusal numbers", of a reading: 1 to 9 are the crest's own, and 10 to 15 are given exactly when, on a crest of any source and by a C call on a run. A reading of
-- whole numbers is answered and refused as its point or its place is, since the rule of its numbers stands between the crest's own rules and those of the question.
use Prim.Native.Nat.{ℕ, ◌+◌, ◌*◌, ◌≤◌, ◌<◌}
use mathlib.Core.Bool.{true, false, ◌&&◌, and-eq-true_iff}
use mathlib.Core.List.{List}
use mathlib.Core.Logic.Iff
use mathlib.Core.Logic.{◌≢◌, ◌⊎◌, ⊎_map, ◌↔◌}
use mathlib.Core.Path.{◌≡◌, refl, sym, ◌∙◌, ap, ap₂}
use native.Mathlib.Nat.{add-zero}
use native.Mathlib.Omega.{arith}
use lib.Ieee.{Float}
use lib.IntN.{ℤ, nat_abs}
use lib.ListN.{length}
use Rattle.model.specs.declared.Element.{Element}
use Rattle.model.specs.declared.Point.{Point}
use Rattle.model.specs.declared.Refusal.{Refusal}
use Rattle.model.specs.declared.Outcome.TheVariants.{Done, Refused}
use Rattle.model.specs.declared.Located.TheVariants.{Refused as LocatedRefused}
use Rattle.model.specs.declared.Inverse.TheVariants.{Refused as InverseRefused}
use Rattle.model.specs.declared.Reading.TheVariants.{PlanePoint, LinePlace}
use Rattle.model.specs.declared.ReadingAnswer.{ReadingAnswer}
use Rattle.model.specs.declared.ReadingAnswer.TheVariants.{PlanePoint as AnswerPoint, LinePlace as AnswerPlace, Refused as AnswerRefused}
use Rattle.model.specs.Refusals.{Reason, number, refusal, not_whole, outside_frame, too_far, before_start, after_end, asked_out_of_range, rule₀, Gives, verdict}
use Rattle.model.specs.Acceptance.{in_frame}
use Rattle.model.specs.Crest.{Crest, check_of, is_own, SoundCrest}
use Rattle.model.specs.Stations.{is_station}
use Rattle.model.specs.Answers.{PaperAnswer, code, Question, answer_after, point_rules, point_question, located, inverse_at, line_rules, place_question, inverse}
use Rattle.model.specs.Readings.{Whole, whole, none, whole_of, is_whole, value_of, number_rules, from_located, from_inverse, put_after, reading_question, answer_to, paper_of_reading}
use Rattle.model.specs.Run.{is_full, run_at}
use Rattle.model.specs.Calls.{reading_call}
use Rattle.model.specs.Histories.{Came, reading}
use Rattle.model.proofs.Verdict.{done→all, all→done, reason_numbered}
use Rattle.model.proofs.RuleNumbers.{own_apart}
use Rattle.model.proofs.Answers.{Tells, point_tells, place_tells, reading_tells}
use Rattle.model.proofs.ForEach.{holds_one, one_holds}
use Rattle.walk_laws.proofs.Outcomes.{TooFar, BeforeStart, AfterEnd, Answered, crest_outside_frame, crest_too_far, crest_before_start, crest_after_end}
use Rattle.model.proofs.Reasons.{Lacks, empty, other}
use Rattle.run.proofs.Calls.{reading_counted}
use Rattle.integers.proofs.Tests.{and_fails}
use Rattle.integers.proofs.Order.{clash}
use Rattle.model.proofs.AfterCrest.{next_after_crest}
use Rattle.demands.proofs.AfterNumbers.{came_as, came_refused, refused_as, given_as, refused_own, never_refused, point_answered}
use Rattle.demands.proofs.Demand1.{Numbered, came_numbered, ReadingEnds, no_run, run_full_lem, counts, any_reading_call}
use Rattle.demands.proofs.RefusalTable.{not_own, place_refused_11, place_refused_15}

-- ---- a reading's numbers

not_whole_lem : (a : Whole) → (is_whole a ≡ false) ↔ (a ≡ none)
unfolding is_whole
not_whole_lem (whole n) = ((λ e. clash cc), (λ e. clash cc))
not_whole_lem none = ((λ e. refl), (λ e. refl))

not_both_whole : (a b : Whole) → ((is_whole a && is_whole b) ≡ false) ↔ ((a ≡ none) ⊎ (b ≡ none))
not_both_whole a b =
    let f = not_whole_lem a in
    let g = not_whole_lem b in
    Iff.trans (and_fails (is_whole a) (is_whole b)) (⊎_map f.0 g.0, ⊎_map f.1 g.1)

-- both numbers of a reading are whole
abbrev pub BothWhole : Float → Float → Type 0
BothWhole x y = (is_whole (whole_of x) ≡ true) × (is_whole (whole_of y) ≡ true)

-- the point of two whole numbers
abbrev pub point_read : Float → Float → Point
point_read x y = record { x = value_of (whole_of x); y = value_of (whole_of y) }

-- station and offset are in range, and the point there lies outside the frame
abbrev pub OutsideAsked : List Element → ℤ → ℤ → Type 0
OutsideAsked es s w =
    ((is_station es s ≡ true) × (nat_abs w ≤ 20000000)) × (in_frame (inverse_at es (nat_abs s) w).x (inverse_at es (nat_abs s) w).y ≡ false)

-- the rule of its numbers
whole_hold : (x y : Float) → (verdict (number_rules x y) ≡ Done) ↔ BothWhole x y
unfolding number_rules
whole_hold x y =
    let both = and-eq-true_iff (is_whole (whole_of x)) (is_whole (whole_of y)) in
    ((λ e. both.0 (holds_one (done→all _ e))), (λ h. all→done (one_holds (both.1 h))))

lacks_whole : (x y : Float) {n : ℕ} → n ≢ 10 → Lacks n (number_rules x y)
unfolding number_rules number
lacks_whole x y h = other (λ e. h (sym e)) empty

-- ---- of a plane point and of a line place

module _ (c : Crest) (own : Gives is_own c.rules) (x y : Float) where
  abbrev es : List Element
  es = c.elements

  -- its two numbers, as a station and an offset
  abbrev s : ℤ
  s = value_of (whole_of x)

  abbrev w : ℤ
  w = value_of (whole_of y)

  -- of whole numbers it is refused as the point or the place of these numbers is
  pub point_refused_as : (why : Refusal) → is_own why.number ≡ false → why.number ≢ 10 → (answer_to c (PlanePoint x y) ≡ AnswerRefused why) ↔ (BothWhole x y × (located c (point_read x y) ≡ LocatedRefused why))
  unfolding reading_question
  point_refused_as why later others =
      Iff.trans (refused_as c (number_rules x y) own from_located _ (point_tells (point_read x y) es) (reading_tells (PlanePoint x y) es) why later (lacks_whole x y others)) (Iff.and (whole_hold x y) Iff.rfl)

  pub place_refused_as : (why : Refusal) → is_own why.number ≡ false → why.number ≢ 10 → (answer_to c (LinePlace x y) ≡ AnswerRefused why) ↔ (BothWhole x y × (inverse c s w ≡ InverseRefused why))
  unfolding reading_question
  place_refused_as why later others =
      Iff.trans (refused_as c (number_rules x y) own from_inverse _ (place_tells s w es) (reading_tells (LinePlace x y) es) why later (lacks_whole x y others)) (Iff.and (whole_hold x y) Iff.rfl)

  -- and comes to what that does
  pub point_reading : BothWhole x y → answer_to c (PlanePoint x y) ≡ from_located (located c (point_read x y))
  unfolding reading_question point_question from_located
  point_reading h = came_as c (number_rules x y) from_located _ (λ why. refl) ((whole_hold x y).1 h)

  pub place_reading : BothWhole x y → answer_to c (LinePlace x y) ≡ from_inverse (inverse c s w)
  unfolding reading_question place_question from_inverse
  place_reading h = came_as c (number_rules x y) from_inverse _ (λ why. refl) ((whole_hold x y).1 h)

  -- "A point that meets no refusal is answered, and the station answered is the one judged.", of a plane reading
  pub reading_answered : (station : ℕ) (offset residual : ℤ) (count : ℕ) → (answer_to c (PlanePoint x y) ≡ AnswerPoint station offset residual count)
      ↔ ((check_of c ≡ Done) × BothWhole x y × Answered c.elements (point_read x y) station offset residual count)
  unfolding reading_question
  reading_answered station offset residual count =
      point_answered c (number_rules x y) own (whole_hold x y) (point_read x y) station offset residual count

  -- ---- 1 to 9: a reading is refused with a crest's own number exactly when the crest is

  pub point_refused_own : (why : Refusal) → is_own why.number ≡ true → (answer_to c (PlanePoint x y) ≡ AnswerRefused why) ↔ (check_of c ≡ Refused why)
  unfolding reading_question number_rules point_question point_rules number is_own
  point_refused_own why k =
      refused_own c (number_rules x y) own from_located _ (point_tells (point_read x y) es) (reading_tells (PlanePoint x y) es) why
      (other (not_own not_whole k refl) (other (not_own outside_frame k refl) (other (not_own too_far k refl) (other (not_own before_start k refl) (other (not_own after_end k refl) empty)))))

  pub place_refused_own : (why : Refusal) → is_own why.number ≡ true → (answer_to c (LinePlace x y) ≡ AnswerRefused why) ↔ (check_of c ≡ Refused why)
  unfolding reading_question number_rules place_question line_rules number is_own
  place_refused_own why k =
      refused_own c (number_rules x y) own from_inverse _ (place_tells s w es) (reading_tells (LinePlace x y) es) why (other (not_own not_whole k refl) (other (not_own asked_out_of_range k refl) (other (not_own outside_frame k refl) empty)))

  -- "when the point's station is asked for": 12, 13 and 14 are no line place's
  pub place_not_judged : (why : Refusal) → 12 ≤ why.number → why.number ≤ 14 → answer_to c (LinePlace x y) ≢ AnswerRefused why
  unfolding reading_question place_question line_rules number is_own
  place_not_judged why low high =
      let later = own_apart why.number (omega arith) (omega arith) in
      never_refused c (number_rules x y) own from_inverse _ (place_tells s w es) (reading_tells (LinePlace x y) es) why later (lacks_whole x y (λ e. omega arith)) (other (λ e. omega arith) (other (λ e. omega arith) empty))

  -- and 15 is no plane point's
  pub point_not_out_of_range : (why : Refusal) → why.number ≡ 15 → answer_to c (PlanePoint x y) ≢ AnswerRefused why
  unfolding reading_question point_question point_rules number
  point_not_out_of_range why e =
      let later = own_apart why.number (omega arith) (omega arith) in
      never_refused c (number_rules x y) own from_located _ (point_tells (point_read x y) es) (reading_tells (PlanePoint x y) es) why later (lacks_whole x y (λ f. omega arith))
      (other (λ f. omega arith) (other (λ f. omega arith) (other (λ f. omega arith) (other (λ f. omega arith) empty))))

  -- ---- 10: "a reading's number not finite or not whole"

  refused_10 : {A : Type 0} {refused : Refusal → A} {paper_of : A → PaperAnswer} {paper : ReadingAnswer → PaperAnswer} (from : A → ReadingAnswer) (q : Question A) → Tells refused paper_of q → Tells AnswerRefused paper (put_after (number_rules x y) from q) →
      Lacks 10 q.order → (answer_after c.rules (put_after (number_rules x y) from q) ≡ AnswerRefused (refusal not_whole 0)) ↔ ((check_of c ≡ Done) × ((whole_of x ≡ none) ⊎ (whole_of y ≡ none)))
  unfolding number_rules number is_own
  refused_10 from q tells asks lacks =
      Iff.trans (came_refused c (number_rules x y) own from q tells asks (refusal not_whole 0))
      (Iff.trans (next_after_crest (rule₀ not_whole (is_whole (whole_of x) && is_whole (whole_of y))) q.order lacks c own refl) (Iff.and Iff.rfl (not_both_whole (whole_of x) (whole_of y))))

  pub point_refused_10 : (answer_to c (PlanePoint x y) ≡ AnswerRefused (refusal not_whole 0)) ↔ ((check_of c ≡ Done) × ((whole_of x ≡ none) ⊎ (whole_of y ≡ none)))
  unfolding reading_question point_question point_rules number
  point_refused_10 =
      refused_10 from_located _ (point_tells (point_read x y) es) (reading_tells (PlanePoint x y) es) (other (omega arith) (other (omega arith) (other (omega arith) (other (omega arith) empty))))

  pub place_refused_10 : (answer_to c (LinePlace x y) ≡ AnswerRefused (refusal not_whole 0)) ↔ ((check_of c ≡ Done) × ((whole_of x ≡ none) ⊎ (whole_of y ≡ none)))
  unfolding reading_question place_question line_rules number
  place_refused_10 = refused_10 from_inverse _ (place_tells s w es) (reading_tells (LinePlace x y) es) (other (omega arith) (other (omega arith) empty))

  -- ---- 11 to 15 of a reading on a crest

  -- of a plane point: 11, 12, 13 and 14, where the crest is accepted and both numbers are whole
  point_given : (why : Reason) {C : Type 0} → is_own (number why) ≡ false → number why ≢ 10 → ((located c (point_read x y) ≡ LocatedRefused (refusal why 0)) ↔ ((check_of c ≡ Done) × C)) →
      (answer_to c (PlanePoint x y) ≡ AnswerRefused (refusal why 0)) ↔ ((check_of c ≡ Done) × BothWhole x y × C)
  unfolding reading_question
  point_given why later others = given_as c (number_rules x y) own from_located _ (point_tells (point_read x y) es) (reading_tells (PlanePoint x y) es) why later (lacks_whole x y others) (whole_hold x y)

  pub reading_refused_11 : (answer_to c (PlanePoint x y) ≡ AnswerRefused (refusal outside_frame 0))
      ↔ ((check_of c ≡ Done) × BothWhole x y × (in_frame (value_of (whole_of x)) (value_of (whole_of y)) ≡ false))
  unfolding number is_own
  reading_refused_11 = point_given outside_frame refl (λ e. omega arith) (crest_outside_frame c own (point_read x y))

  pub reading_refused_12 : (answer_to c (PlanePoint x y) ≡ AnswerRefused (refusal too_far 0)) ↔ ((check_of c ≡ Done) × BothWhole x y × TooFar c.elements (point_read x y))
  unfolding number is_own
  reading_refused_12 = point_given too_far refl (λ e. omega arith) (crest_too_far c own (point_read x y))

  pub reading_refused_13 : (answer_to c (PlanePoint x y) ≡ AnswerRefused (refusal before_start 0)) ↔ ((check_of c ≡ Done) × BothWhole x y × BeforeStart c.elements (point_read x y))
  unfolding number is_own
  reading_refused_13 = point_given before_start refl (λ e. omega arith) (crest_before_start c own (point_read x y))

  pub reading_refused_14 : (answer_to c (PlanePoint x y) ≡ AnswerRefused (refusal after_end 0)) ↔ ((check_of c ≡ Done) × BothWhole x y × AfterEnd c.elements (point_read x y))
  unfolding number is_own
  reading_refused_14 = point_given after_end refl (λ e. omega arith) (crest_after_end c own (point_read x y))

  -- of a line place: 15, and 11 of the resulting point
  place_given : (why : Reason) {C : Type 0} → is_own (number why) ≡ false → number why ≢ 10 → ((inverse c s w ≡ InverseRefused (refusal why 0)) ↔ ((check_of c ≡ Done) × C)) →
      (answer_to c (LinePlace x y) ≡ AnswerRefused (refusal why 0)) ↔ ((check_of c ≡ Done) × BothWhole x y × C)
  unfolding reading_question
  place_given why later others = given_as c (number_rules x y) own from_inverse _ (place_tells s w es) (reading_tells (LinePlace x y) es) why later (lacks_whole x y others) (whole_hold x y)

  pub reading_refused_15 : (answer_to c (LinePlace x y) ≡ AnswerRefused (refusal asked_out_of_range 0))
      ↔ ((check_of c ≡ Done) × BothWhole x y × ((is_station c.elements s ≡ false) ⊎ (20000000 < nat_abs w)))
  unfolding number is_own
  reading_refused_15 = place_given asked_out_of_range refl (λ e. omega arith) (place_refused_15 c own s w)

  pub reading_refused_11_resulting : (answer_to c (LinePlace x y) ≡ AnswerRefused (refusal outside_frame 0)) ↔
      ((check_of c ≡ Done) × BothWhole x y × OutsideAsked c.elements s w)
  unfolding number is_own
  reading_refused_11_resulting =
      place_given outside_frame refl (λ e. omega arith)
      (Iff.trans (place_refused_11 c own s w) ((λ z. (z.0, (z.1, z.2))), (λ z. (z.0, z.1.0, z.1.1))))

-- ---- the same of the C call on a run

-- what a call returns tells the refusal
returns : (a : ReadingAnswer) → ((why : Refusal) → a ≡ AnswerRefused why → Numbered why) → (why : Reason) (place : ℕ) → code (paper_of_reading 0 a) ≡ number why + 256 * place → a ≡ AnswerRefused (refusal why place)
unfolding code paper_of_reading refusal
returns (AnswerPoint station offset residual visits) h why place e = absurd (omega (arith, reason_numbered why))
returns (AnswerPlace x y) h why place e = absurd (omega (arith, reason_numbered why))
returns (AnswerRefused w) h why place e =
    let n : w.number ≡ number why = omega (arith, reason_numbered why, h w refl) in
    let p : w.place ≡ place = omega (arith, reason_numbered why, h w refl) in
    ap₂ (λ (m k : ℕ). AnswerRefused (record { number = m; place = k })) n p

-- "A C call returns the refusal number plus 256 times its place": a call returns that of a reading's refusal exactly when the run's bytes are 24, the run is not full and
-- the reading came to it
module _ {a : ReadingAnswer} (came : Came a) (run : List ℕ) where
  pub call_returns : (why : Reason) (place : ℕ) → number why ≢ 16 → number why ≢ 18 →
      ((reading_call a run).0 ≡ number why + 256 * place) ↔ ((length run ≡ 24) × (is_full (run_at run) ≡ false) × (a ≡ AnswerRefused (refusal why place)))
  unfolding code paper_of_reading refusal
  call_returns why place not_full not-room = (
    go (any_reading_call a run),
    (λ x. ap (λ o. o.0) (reading_counted a run x.0 x.1) ∙ ap (λ z. code (paper_of_reading 0 z)) x.2),
  )
    where
      go : ReadingEnds a run → (reading_call a run).0 ≡ number why + 256 * place → (length run ≡ 24) × (is_full (run_at run) ≡ false) × (a ≡ AnswerRefused (refusal why place))
      go (no_run h e) g = let z : 18 ≡ number why + 256 * place = sym (ap (λ o. o.0) e) ∙ g in absurd (not-room (omega (arith, reason_numbered why)))
      go (run_full_lem h f e) g = let z : 16 ≡ number why + 256 * place = sym (ap (λ o. o.0) e) ∙ g in absurd (not_full (omega (arith, reason_numbered why)))
      go (counts h f e) g = (h, f, returns a (came_numbered came) why place (sym (ap (λ o. o.0) e) ∙ g))

  -- with what makes the reading come to a refusal without a place
  pub call_given : (why : Reason) {C : Type 0} → number why ≢ 16 → number why ≢ 18 → ((a ≡ AnswerRefused (refusal why 0)) ↔ C) →
      ((reading_call a run).0 ≡ number why) ↔ ((length run ≡ 24) × (is_full (run_at run) ≡ false) × C)
  call_given why not_full not-room given =
      let returned = call_returns why 0 not_full not-room in (
        (λ e. let x = returned.0 (e ∙ sym (add-zero (number why))) in (x.0, x.1, given.0 x.2)),
        (λ x. returned.1 (x.0, x.1, given.1 x.2) ∙ add-zero (number why)),
      )

-- so of a plane reading and of a line reading on a crest, each number
module _ (c : Crest) (sound : SoundCrest c) (x y : Float) (run : List ℕ) where
  pub plane_call_refused_10 : ((reading_call (answer_to c (PlanePoint x y)) run).0 ≡ 10) ↔ ((length run ≡ 24) × (is_full (run_at run) ≡ false) × ((check_of c ≡ Done) × ((whole_of x ≡ none) ⊎ (whole_of y ≡ none))))
  unfolding number
  plane_call_refused_10 = call_given (reading c sound (PlanePoint x y)) run not_whole (λ e. omega arith) (λ e. omega arith) (point_refused_10 c sound.own x y)

  pub plane_call_refused_11 : ((reading_call (answer_to c (PlanePoint x y)) run).0 ≡ 11) ↔ ((length run ≡ 24) × (is_full (run_at run) ≡ false) × ((check_of c ≡ Done) × BothWhole x y × (in_frame (value_of (whole_of x)) (value_of (whole_of y)) ≡ false)))
  unfolding number
  plane_call_refused_11 = call_given (reading c sound (PlanePoint x y)) run outside_frame (λ e. omega arith) (λ e. omega arith) (reading_refused_11 c sound.own x y)

  pub plane_call_refused_12 : ((reading_call (answer_to c (PlanePoint x y)) run).0 ≡ 12) ↔ ((length run ≡ 24) × (is_full (run_at run) ≡ false) × ((check_of c ≡ Done) × BothWhole x y × TooFar c.elements (point_read x y)))
  unfolding number
  plane_call_refused_12 = call_given (reading c sound (PlanePoint x y)) run too_far (λ e. omega arith) (λ e. omega arith) (reading_refused_12 c sound.own x y)

  pub plane_call_refused_13 : ((reading_call (answer_to c (PlanePoint x y)) run).0 ≡ 13) ↔ ((length run ≡ 24) × (is_full (run_at run) ≡ false) × ((check_of c ≡ Done) × BothWhole x y × BeforeStart c.elements (point_read x y)))
  unfolding number
  plane_call_refused_13 = call_given (reading c sound (PlanePoint x y)) run before_start (λ e. omega arith) (λ e. omega arith) (reading_refused_13 c sound.own x y)

  pub plane_call_refused_14 : ((reading_call (answer_to c (PlanePoint x y)) run).0 ≡ 14) ↔ ((length run ≡ 24) × (is_full (run_at run) ≡ false) × ((check_of c ≡ Done) × BothWhole x y × AfterEnd c.elements (point_read x y)))
  unfolding number
  plane_call_refused_14 = call_given (reading c sound (PlanePoint x y)) run after_end (λ e. omega arith) (λ e. omega arith) (reading_refused_14 c sound.own x y)

  pub plane_call_not_15 : (place : ℕ) → (reading_call (answer_to c (PlanePoint x y)) run).0 ≢ 15 + 256 * place
  unfolding number refusal
  plane_call_not_15 place e =
      point_not_out_of_range c sound.own x y (refusal asked_out_of_range place) refl ((call_returns (reading c sound (PlanePoint x y)) run asked_out_of_range place (λ f. omega arith) (λ f. omega arith)).0 e).2

  pub line_call_refused_10 : ((reading_call (answer_to c (LinePlace x y)) run).0 ≡ 10) ↔ ((length run ≡ 24) × (is_full (run_at run) ≡ false) × ((check_of c ≡ Done) × ((whole_of x ≡ none) ⊎ (whole_of y ≡ none))))
  unfolding number
  line_call_refused_10 = call_given (reading c sound (LinePlace x y)) run not_whole (λ e. omega arith) (λ e. omega arith) (place_refused_10 c sound.own x y)

  pub line_call_refused_15 : ((reading_call (answer_to c (LinePlace x y)) run).0 ≡ 15) ↔ ((length run ≡ 24) × (is_full (run_at run) ≡ false) × ((check_of c ≡ Done) × BothWhole x y × ((is_station c.elements (value_of (whole_of x)) ≡ false) ⊎ (20000000 < nat_abs (value_of (whole_of y))))))
  unfolding number
  line_call_refused_15 = call_given (reading c sound (LinePlace x y)) run asked_out_of_range (λ e. omega arith) (λ e. omega arith) (reading_refused_15 c sound.own x y)

  pub line_call_refused_11 : ((reading_call (answer_to c (LinePlace x y)) run).0 ≡ 11) ↔ ((length run ≡ 24) × (is_full (run_at run) ≡ false) × ((check_of c ≡ Done) × BothWhole x y × OutsideAsked c.elements (value_of (whole_of x)) (value_of (whole_of y))))
  unfolding number
  line_call_refused_11 = call_given (reading c sound (LinePlace x y)) run outside_frame (λ e. omega arith) (λ e. omega arith) (reading_refused_11_resulting c sound.own x y)

  pub line_call_not_judged : (why : Reason) → 12 ≤ number why → number why ≤ 14 → (place : ℕ) → (reading_call (answer_to c (LinePlace x y)) run).0 ≢ number why + 256 * place
  unfolding refusal
  line_call_not_judged why low high place e =
      place_not_judged c sound.own x y (refusal why place) low high ((call_returns (reading c sound (LinePlace x y)) run why place (λ f. omega arith) (λ f. omega arith)).0 e).2
