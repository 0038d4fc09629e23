-- The outcome of a point from the tests as they are computed: 11 to 14 where their test says so and none before it does, else the answer.
use mathlib.Core.Bool.{true, false, not, ◌&&◌}
use mathlib.Core.List.{List}
use mathlib.Core.Path.{◌≡◌, refl, ap}
use Prim.Native.Nat.{ℕ, ◌≤◌, ◌<◌}
use lib.Dec.{eqb}
use lib.IntN.{ℤ, pos, neg_ℤ}
use lib.Signed.{lt_z, ◌<ℤ◌}
use Rattle.integers.proofs.Order.{clash}
use Rattle.model.specs.declared.Element.{Element}
use Rattle.model.specs.declared.Point.{Point}
use Rattle.model.specs.declared.Located.TheVariants.{At as LocatedAt, Refused as LocatedRefused}
use Rattle.model.specs.Refusals.{number, refusal}
use Rattle.model.specs.Acceptance.{in_frame}
use Rattle.model.specs.Stations.{total, D}
use Rattle.model.specs.Judged.{judged, residual_at, offset_at}
use Rattle.model.specs.Walk.{visit_count}
use Rattle.model.specs.Answers.{farthest, past_end, located_on}
use Rattle.walk_laws.proofs.Outcomes.{at_end_fails, count_is, outside_frame_lem, too_far_lem, before_start_lem, after_end_lem, answered}

-- a test at an end of the alignment
test_true : (s t : ℕ) (a b : ℤ) → (eqb s t && lt_z a b) ≡ true → (s ≡ t) × (a <ℤ b)
test_true s t a b e = (at_end_fails s t a b).0 (ap not e)

test_false : (s t : ℕ) (a b : ℤ) → (eqb s t && lt_z a b) ≡ false → ¬ ((s ≡ t) × (a <ℤ b))
test_false s t a b e x = clash (cc ((at_end_fails s t a b).1 x, ap not e))

module _ (es : List Element) (p : Point) where
  abbrev s : ℕ
  s = judged es p

  abbrev residual : ℤ
  residual = residual_at es p (judged es p)

  pub gives_11 : in_frame p.x p.y ≡ false → located_on es p ≡ LocatedRefused (record { number = 11; place = 0 })
  unfolding refusal number
  gives_11 e = (outside_frame_lem es p).1 e

  module _ (inside : in_frame p.x p.y ≡ true) where
    pub gives_12 : farthest < D es p (judged es p) → located_on es p ≡ LocatedRefused (record { number = 12; place = 0 })
    unfolding refusal number
    gives_12 h = (too_far_lem es p).1 (inside, h)

    module _ (near : D es p (judged es p) ≤ farthest) where
      pub gives_13 : (eqb (judged es p) 0 && lt_z (residual_at es p (judged es p)) (neg_ℤ (pos past_end))) ≡ true → located_on es p ≡ LocatedRefused (record { number = 13; place = 0 })
      unfolding refusal number
      gives_13 e = let x = test_true s 0 residual (neg_ℤ (pos past_end)) e in (before_start_lem es p).1 (inside, near, x.0, x.1)

      pub gives_14 : (eqb (judged es p) (total es) && lt_z (pos past_end) (residual_at es p (judged es p))) ≡ true → located_on es p ≡ LocatedRefused (record { number = 14; place = 0 })
      unfolding refusal number
      gives_14 e = let x = test_true s (total es) (pos past_end) residual e in (after_end_lem es p).1 (inside, near, x.0, x.1)

      pub gives_answer : (eqb (judged es p) 0 && lt_z (residual_at es p (judged es p)) (neg_ℤ (pos past_end))) ≡ false → (eqb (judged es p) (total es) && lt_z (pos past_end) (residual_at es p (judged es p))) ≡ false →
          located_on es p ≡ LocatedAt (judged es p) (offset_at es p (judged es p)) (residual_at es p (judged es p)) (visit_count es p)
      gives_answer e f =
          (answered es p s (offset_at es p s) residual (visit_count es p)).1
          (record {
            inside = inside;
            near = near;
            not_before = test_false s 0 residual (neg_ℤ (pos past_end)) e;
            not_after = test_false s (total es) (pos past_end) residual f;
            station = refl;
            offset = refl;
            residual = refl;
            count = count_is es p;
          })
