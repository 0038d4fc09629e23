-- The outcome of a point: its four rules give four different numbers, so each is given exactly when its rule is the first that does not hold; and what its test computes
-- is the condition of document 01's table.
use mathlib.Core.Bool.{Bool, true, false, not, ◌&&◌}
use mathlib.Core.List.{List, [], ◌∷◌, ◌++◌}
use mathlib.Core.Logic.Iff
use mathlib.Core.Logic.{◌↔◌}
use mathlib.Core.Path.{◌≡◌, refl, sym, ◌∙◌, ap, subst}
use Prim.Native.Nat.{ℕ, ◌+◌, ◌≤◌, ◌<◌}
use native.Mathlib.Omega.{arith}
use lib.ListN.{length, length-append}
use lib.Dec.{T, leb, eqb, eqb→eq}
use lib.IntN.{ℤ, pos, neg_ℤ}
use lib.Signed.{lt_z, lt_z_yes, ◌<ℤ◌}
use lib.Ieee.Bits.{is_true}
use mir.Facts.{and_yes, yes_and, yes_eqb}
use borrow.Author.Tests.{leb-true, leb-false, le-leb, lt-leb, not-false}
use Rattle.integers.proofs.Order.{order, clash}
use Rattle.model.specs.declared.Element.{Element}
use Rattle.model.specs.declared.Point.{Point}
use Rattle.model.specs.declared.Refusal.{Refusal}
use Rattle.model.specs.declared.Outcome.{Outcome}
use Rattle.model.specs.declared.Outcome.TheVariants.{Done, Refused}
use Rattle.model.specs.declared.Located.{Located}
use Rattle.model.specs.declared.Located.TheVariants.{At as LocatedAt, Refused as LocatedRefused}
use Rattle.model.specs.Refusals.{Reason, Rule, rule₀, number, refusal, Gives, verdict, outside_frame, too_far, before_start, after_end}
use Rattle.model.specs.Acceptance.{in_frame}
use Rattle.model.specs.Crest.{Crest, check_of, is_own}
use Rattle.model.specs.Stations.{total, D}
use Rattle.model.specs.Judged.{judged, residual_at, offset_at}
use Rattle.model.specs.Walk.{first_visits, second_visits, visits, visit_count}
use Rattle.model.specs.Answers.{farthest, past_end, point_rules, answer_if, answer_after, point_question, located_on, located}
use Rattle.model.proofs.Answers.{told_exactly, point_tells}
use Rattle.model.proofs.Verdict.{AllHold, none, more, done→all, all→done}
use Rattle.model.proofs.AfterCrest.{asked_exactly}
use Rattle.model.proofs.Reasons.{first_holds, rest_hold, Lacks, empty, other, given_exactly}

-- ---- the table's conditions, each where none before it applies

abbrev pub TooFar : List Element → Point → Type 0
TooFar es p = (in_frame p.x p.y ≡ true) × (farthest < D es p (judged es p))

abbrev pub BeforeStart : List Element → Point → Type 0
BeforeStart es p = (in_frame p.x p.y ≡ true) × (D es p (judged es p) ≤ farthest) × (judged es p ≡ 0) × (residual_at es p (judged es p) <ℤ neg_ℤ (pos past_end))

abbrev pub AfterEnd : List Element → Point → Type 0
AfterEnd es p = (in_frame p.x p.y ≡ true) × (D es p (judged es p) ≤ farthest) × (judged es p ≡ total es) × (pos past_end <ℤ residual_at es p (judged es p))

-- An answer: none of 11 to 14 applies, and it gives the station judged with its offset and residual, and how many stations both passes visit.
pub record Answered (es : List Element) (p : Point) (at : ℕ) (w r : ℤ) (n : ℕ) : Type 0 where
  pub inside : in_frame p.x p.y ≡ true
  pub near : D es p (judged es p) ≤ farthest
  pub not_before : ¬ ((judged es p ≡ 0) × (residual_at es p (judged es p) <ℤ neg_ℤ (pos past_end)))
  pub not_after : ¬ ((judged es p ≡ total es) × (pos past_end <ℤ residual_at es p (judged es p)))
  pub station : at ≡ judged es p
  pub offset : w ≡ offset_at es p (judged es p)
  pub residual : r ≡ residual_at es p (judged es p)
  pub count : n ≡ length (first_visits (total es)) + length (second_visits es p)

-- ---- what the tests compute

pub at_end_fails : (s t : ℕ) (a b : ℤ) → (not (eqb s t && lt_z a b) ≡ false) ↔ ((s ≡ t) × (a <ℤ b))
at_end_fails s t a b = (
  (λ e. let x = and_yes (eqb s t) (lt_z a b) (subst T (sym (not-false (eqb s t && lt_z a b) e)) tt) in (eqb→eq s t x.0, lt_z_yes x.1)),
  (λ x. ap not (is_true (eqb s t && lt_z a b) (yes_and (eqb s t) (lt_z a b) (yes_eqb x.0) x.1.lt))),
)

-- a test that fails exactly when P holds, holds exactly when P does not
holds_unless : {P : Type 0} (b : Bool) → ((b ≡ false) ↔ P) → (b ≡ true) ↔ (¬ P)
holds_unless true f = ((λ e x. clash (cc (f.1 x))), (λ h. refl))
holds_unless false f = ((λ e. clash cc), (λ h. absurd (h (f.0 refl))))

-- ---- from the verdict to the answer

pub count_is : (es : List Element) (p : Point) → visit_count es p ≡ length (first_visits (total es)) + length (second_visits es p)
unfolding visit_count visits
count_is es p = length-append (first_visits (total es)) (second_visits es p)

located_at : (o : Outcome) (es : List Element) (p : Point) (station : ℕ) (offset residual : ℤ) (count : ℕ) → let s = judged es p in (answer_if o (point_question p es) ≡ LocatedAt station offset residual count) ↔
    ((o ≡ Done) × (station ≡ s) × (offset ≡ offset_at es p s) × (residual ≡ residual_at es p s) × (count ≡ visit_count es p))
unfolding answer_if point_question
located_at Done es p station offset residual count = ((λ e. (refl, cc, cc, cc, cc)), (λ x. cc (x.1, x.2, x.3, x.4)))
located_at (Refused r) es p station offset residual count = ((λ e. clash cc), (λ x. clash (cc x.0)))

-- ---- each outcome

module _ (es : List Element) (p : Point) where
  abbrev frame : Rule
  frame = rule₀ outside_frame (in_frame p.x p.y)

  abbrev near : Rule
  near = rule₀ too_far (leb (D es p (judged es p)) farthest)

  abbrev start : Rule
  start = rule₀ before_start (not (eqb (judged es p) 0 && lt_z (residual_at es p (judged es p)) (neg_ℤ (pos past_end))))

  abbrev end : Rule
  end = rule₀ after_end (not (eqb (judged es p) (total es) && lt_z (pos past_end) (residual_at es p (judged es p))))

  near_holds : (near.holds ≡ true) ↔ (D es p (judged es p) ≤ farthest)
  near_holds = (leb-true (D es p (judged es p)) farthest, le-leb (D es p (judged es p)) farthest)

  near_fails : (near.holds ≡ false) ↔ (farthest < D es p (judged es p))
  near_fails = (leb-false (D es p (judged es p)) farthest, lt-leb (D es p (judged es p)) farthest)

  start_fails : (start.holds ≡ false) ↔ ((judged es p ≡ 0) × (residual_at es p (judged es p) <ℤ neg_ℤ (pos past_end)))
  start_fails = at_end_fails (judged es p) 0 (residual_at es p (judged es p)) (neg_ℤ (pos past_end))

  start_holds : (start.holds ≡ true) ↔ (¬ ((judged es p ≡ 0) × (residual_at es p (judged es p) <ℤ neg_ℤ (pos past_end))))
  start_holds = holds_unless start.holds start_fails

  end_fails : (end.holds ≡ false) ↔ ((judged es p ≡ total es) × (pos past_end <ℤ residual_at es p (judged es p)))
  end_fails = at_end_fails (judged es p) (total es) (pos past_end) (residual_at es p (judged es p))

  end_holds : (end.holds ≡ true) ↔ (¬ ((judged es p ≡ total es) × (pos past_end <ℤ residual_at es p (judged es p))))
  end_holds = holds_unless end.holds end_fails

  refused_by_lem : (before : List Rule) (r : Rule) (after : List Rule) → before ++ (r ∷ after) ≡ (frame ∷ near ∷ start ∷ end ∷ []) →
      Lacks (number r.why) before → Lacks (number r.why) after → (located_on es p ≡ LocatedRefused (refusal r.why r.place)) ↔ (AllHold before × (r.holds ≡ false))
  unfolding point_question point_rules
  refused_by_lem before r after split k l = Iff.trans (told_exactly (point_tells p es) [] (refusal r.why r.place)) (rw split at (given_exactly r after l before k))

  pub outside_frame_lem : (located_on es p ≡ LocatedRefused (refusal outside_frame 0)) ↔ (in_frame p.x p.y ≡ false)
  unfolding number
  outside_frame_lem =
      Iff.trans
      (refused_by_lem [] frame (near ∷ start ∷ end ∷ []) refl empty (other (omega arith) (other (omega arith) (other (omega arith) empty))))
      ((λ x. x.1), (λ e. (none, e)))

  pub too_far_lem : (located_on es p ≡ LocatedRefused (refusal too_far 0)) ↔ TooFar es p
  unfolding number
  too_far_lem =
      Iff.trans
      (refused_by_lem (frame ∷ []) near (start ∷ end ∷ []) refl (other (omega arith) empty) (other (omega arith) (other (omega arith) empty)))
      ((λ x. (first_holds x.0, near_fails.0 x.1)), (λ x. (more x.0 none, near_fails.1 x.1)))

  pub before_start_lem : (located_on es p ≡ LocatedRefused (refusal before_start 0)) ↔ BeforeStart es p
  unfolding number
  before_start_lem =
      Iff.trans
      (refused_by_lem (frame ∷ near ∷ []) start (end ∷ []) refl (other (omega arith) (other (omega arith) empty)) (other (omega arith) empty)) (
        (λ x. let y = start_fails.0 x.1 in (first_holds x.0, near_holds.0 (first_holds (rest_hold x.0)), y.0, y.1)),
        (λ x. (more x.0 (more (near_holds.1 x.1) none), start_fails.1 (x.2, x.3))),
      )

  pub after_end_lem : (located_on es p ≡ LocatedRefused (refusal after_end 0)) ↔ AfterEnd es p
  unfolding number
  after_end_lem =
      Iff.trans
      (refused_by_lem (frame ∷ near ∷ start ∷ []) end [] refl (other (omega arith) (other (omega arith) (other (omega arith) empty))) empty) (
        (λ x. let y = end_fails.0 x.1 in (first_holds x.0, near_holds.0 (first_holds (rest_hold x.0)), y.0, y.1)),
        (λ x. (more x.0 (more (near_holds.1 x.1) (more (start_holds.1 (λ y. absurd (omega (order, x.3, y.1)))) none)), end_fails.1 (x.2, x.3))),
      )

  pub answered : (station : ℕ) (offset residual : ℤ) (count : ℕ) → (located_on es p ≡ LocatedAt station offset residual count) ↔ Answered es p station offset residual count
  unfolding answer_after point_question point_rules
  answered station offset residual count = Iff.trans (located_at (verdict rules) es p station offset residual count) (parts, whole)
    where
      rules : List Rule
      rules = frame ∷ near ∷ start ∷ end ∷ []

      parts : (verdict rules ≡ Done) × (station ≡ judged es p) × (offset ≡ offset_at es p (judged es p)) × (residual ≡ residual_at es p (judged es p)) × (count ≡ visit_count es p) → Answered es p station offset residual count
      parts x =
          let a = done→all rules x.0 in
          let b = rest_hold a in
          let c = rest_hold b in
          record {
            inside = first_holds a;
            near = near_holds.0 (first_holds b);
            not_before = start_holds.0 (first_holds c);
            not_after = end_holds.0 (first_holds (rest_hold c));
            station = x.1;
            offset = x.2;
            residual = x.3;
            count = x.4 ∙ count_is es p;
          }

      whole : Answered es p station offset residual count → (verdict rules ≡ Done) × (station ≡ judged es p) × (offset ≡ offset_at es p (judged es p)) × (residual ≡ residual_at es p (judged es p)) × (count ≡ visit_count es p)
      whole y = (
        all→done (more y.inside (more (near_holds.1 y.near) (more (start_holds.1 y.not_before) (more (end_holds.1 y.not_after) none)))),
        y.station,
        y.offset,
        y.residual,
        y.count ∙ sym (count_is es p),
      )

-- ---- on a crest: its own refusals first

module _ (c : Crest) (own : Gives is_own c.rules) (p : Point) where
  -- an outcome that no crest gives of its own, with the condition C over elements
  on_crest : (l : Located) {C : Type 0} → ((w : Refusal) → l ≡ LocatedRefused w → is_own w.number ≡ false) → (located_on c.elements p ≡ l) ↔ C → (located c p ≡ l) ↔ ((check_of c ≡ Done) × C)
  on_crest l later e = Iff.trans (asked_exactly (point_question p) c (point_tells p c.elements) own l later) ((λ x. (x.0, e.0 x.1)), (λ x. (x.0, e.1 x.1)))

  refused_on_crest : (why : Reason) {C : Type 0} → is_own (number why) ≡ false → (located_on c.elements p ≡ LocatedRefused (refusal why 0)) ↔ C → (located c p ≡ LocatedRefused (refusal why 0)) ↔ ((check_of c ≡ Done) × C)
  unfolding refusal
  refused_on_crest why h e = on_crest (LocatedRefused (refusal why 0)) (λ w q. let n : number why ≡ w.number = cc in sym (ap is_own n) ∙ h) e

  pub crest_outside_frame : (located c p ≡ LocatedRefused (refusal outside_frame 0)) ↔ ((check_of c ≡ Done) × (in_frame p.x p.y ≡ false))
  unfolding number is_own
  crest_outside_frame = refused_on_crest outside_frame refl (outside_frame_lem c.elements p)

  pub crest_too_far : (located c p ≡ LocatedRefused (refusal too_far 0)) ↔ ((check_of c ≡ Done) × TooFar c.elements p)
  unfolding number is_own
  crest_too_far = refused_on_crest too_far refl (too_far_lem c.elements p)

  pub crest_before_start : (located c p ≡ LocatedRefused (refusal before_start 0)) ↔ ((check_of c ≡ Done) × BeforeStart c.elements p)
  unfolding number is_own
  crest_before_start = refused_on_crest before_start refl (before_start_lem c.elements p)

  pub crest_after_end : (located c p ≡ LocatedRefused (refusal after_end 0)) ↔ ((check_of c ≡ Done) × AfterEnd c.elements p)
  unfolding number is_own
  crest_after_end = refused_on_crest after_end refl (after_end_lem c.elements p)

  pub crest_answered : (station : ℕ) (offset residual : ℤ) (count : ℕ) → (located c p ≡ LocatedAt station offset residual count) ↔ ((check_of c ≡ Done) × Answered c.elements p station offset residual count)
  crest_answered station offset residual count =
      on_crest (LocatedAt station offset residual count) (λ w e. clash cc) (answered c.elements p station offset residual count)
