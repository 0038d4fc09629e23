-- The second pass goes through the stations in order and leaves out only what lies farther than its final best: on each element what it leaves out lies farther
-- than the best of that moment, and the best only falls.
use mathlib.Core.Bool.{Bool, true, false, ◌||◌}
use mathlib.Core.List.{List, [], ◌∷◌, ◌++◌, append_assoc}
use mathlib.Core.Path.{◌≡◌, refl, sym, ◌∙◌, ap, subst}
use Prim.Native.Nat.{ℕ, zero, suc, ◌+◌, ◌-◌, ◌≤◌, ◌<◌, min}
use native.Mathlib.Omega.{arith}
use native.Mathlib.Nat.{le_refl}
use native.Mathlib.Decide.{dec_lt}
use lib.ListN.{length}
use Rattle.integers.proofs.Order.{clash}
use Rattle.model.specs.declared.Element.{Element}
use Rattle.model.specs.declared.Point.{Point}
use Rattle.model.specs.Series.{position_on}
use Rattle.model.specs.Accepted.{Accepted, AllAccepted}
use Rattle.model.specs.Stations.{total, distance_sq, D}
use Rattle.model.specs.Walk.{best_of, first_best, skipped, element_visits, own_stations, second_from, second_visits, is_in}
use Rattle.walk_laws.proofs.Spaced.{skipped_farther}
use Rattle.walk_laws.proofs.Own.{own_between, D_own, total-++}
use Rattle.walk_laws.proofs.Visits.{Place, here, later, place, is_in-++, Rising, none, next, rising_from, rising-++, best_of-≤, best_of-++}

-- A pass over the stations from lo on and below hi, where the best before it is b: its visits rise, and what it leaves out lies farther than its final best.
pub record Passed (d : ℕ → ℕ) (lo hi b : ℕ) (vs : List ℕ) : Type 0 where
  pub rising : Rising hi lo vs
  pub farther : (s : ℕ) → lo ≤ s → s < hi → is_in s vs ≡ false → best_of d b vs < d s

neither : (a b : Bool) → (a || b) ≡ false → (a ≡ false) × (b ≡ false)
neither true b e = clash cc
neither false b e = (refl, e)

passed-++ : {d : ℕ → ℕ} {lo mid hi b : ℕ} {vs ws : List ℕ} → lo ≤ mid → mid ≤ hi → Passed d lo mid b vs → Passed d mid hi (best_of d b vs) ws → Passed d lo hi b (vs ++ ws)
passed-++ {d} {lo} {mid} {hi} {b} {vs} {ws} h k p q =
    record { rising = rising-++ h k p.rising q.rising; farther = λ s l m e. rw best_of-++ (go s l m (neither (is_in s vs) (is_in s ws) (sym (is_in-++ s vs ws) ∙ e)) (dec_lt s mid)) }
  where
    go : (s : ℕ) → lo ≤ s → s < hi → (is_in s vs ≡ false) × (is_in s ws ≡ false) → Dec (s < mid) → best_of d (best_of d b vs) ws < d s
    go s l m e (yes x) = omega (arith, p.farther s l x e.0, best_of-≤ d (best_of d b vs) ws)
    go s l m e (no x) = q.farther s (omega arith) m e.1

passed_none : {d : ℕ → ℕ} {lo hi b : ℕ} → hi ≤ lo → Passed d lo hi b []
passed_none h = record { rising = none; farther = λ s l k i. absurd (omega arith) }

-- ---- one element, whose own stations are those from lo on and below hi

module _ (d : ℕ → ℕ) (lo hi : ℕ) (spaced : (s j b : ℕ) → lo ≤ s → s + j < hi → 0 < j → j ≤ skipped (d s) b → b < d (s + j)) where
  visit_passed : (s b : ℕ) (vs : List ℕ) → lo ≤ s → s < hi → Passed d (s + 1 + skipped (d s) (min b (d s))) hi (min b (d s)) vs → Passed d s hi b (s ∷ vs)
  unfolding best_of
  visit_passed s b vs l k p = record { rising = next s (le_refl s) k (rising_from (omega arith) p.rising); farther = λ x m n e. go x m n e (place x s vs) (dec_lt x (s + 1 + j)) }
    where
      best : ℕ
      best = min b (d s)

      j : ℕ
      j = skipped (d s) best

      go : (x : ℕ) → s ≤ x → x < hi → is_in x (s ∷ vs) ≡ false → Place x s vs → Dec (x < s + 1 + j) → best_of d best vs < d x
      go x m n e (here q i) c = clash cc
      go x m n e (later q i) (no c) = p.farther x (omega arith) n (sym i ∙ e)
      go x m n e (later q i) (yes c) =
          let y : s + (x - s) ≡ x = omega arith in
          let f : best < d x = subst (λ (z : ℕ). best < d z) y (spaced s (x - s) best l (omega arith) (omega arith) (omega arith)) in
          omega (arith, best_of-≤ d best vs)

  element_passed : (k n s b : ℕ) → n ≤ k → n ≡ hi - s → lo ≤ s → Passed d s hi b (element_visits d k n s b)
  unfolding element_visits
  element_passed zero n s b h e l = passed_none (omega arith)
  element_passed (suc k) zero s b h e l = passed_none (omega arith)
  element_passed (suc k) (suc n) s b h e l =
      let best = min b (d s) in
      let j = skipped (d s) best in
      visit_passed s b (element_visits d k (n - j) (s + 1 + j) best) l (omega arith) (element_passed k (n - j) (s + 1 + j) best (omega arith) (omega arith) (omega arith))

-- ---- all elements

module _ (es : List Element) (p : Point) where
  own_passed : (before : List Element) (e : Element) (after : List Element) → before ++ (e ∷ after) ≡ es → Accepted e → (b : ℕ) →
      Passed (D es p) (total before) (total before + own_stations e after) b (element_visits (D es p) (own_stations e after) (own_stations e after) (total before) b)
  own_passed before e after split a b = element_passed (D es p) start (start + own) spaced own own start b (le_refl own) (omega arith) (le_refl start)
    where
      start : ℕ
      start = total before

      own : ℕ
      own = own_stations e after

      distance : (s : ℕ) → start ≤ s → s < start + own → D es p s ≡ distance_sq p (position_on e (s - start))
      distance s l k =
          let y : start + (s - start) ≡ s = omega arith in
          rw (split, y) at (D_own before e after p (s - start) (omega arith))

      spaced : (s j c : ℕ) → start ≤ s → s + j < start + own → 0 < j → j ≤ skipped (D es p s) c → c < D es p (s + j)
      spaced s j c l k z m =
          let y : s + j - start ≡ s - start + j = omega arith in
          let i : s - start + j ≤ e.length = omega (arith, own_between e after) in
          let n = rw (distance s l (omega arith)) at m in
          rw (distance (s + j) (omega arith) k, y) (skipped_farther e a p (s - start) j c i z n)

  -- from the first station of e on, where the elements `before` come before it and `after` after it
  from_passed : (before : List Element) (e : Element) (after : List Element) → before ++ (e ∷ after) ≡ es → AllAccepted (e ∷ after) → (b : ℕ) → Passed (D es p) (total before) (total es + 1) b (second_from (D es p) (e ∷ after) (total before) b)
  unfolding second_from total AllAccepted own_stations
  from_passed before e [] split a b =
      let whole = ap total (sym split) ∙ total-++ before (e ∷ []) in
      passed-++ {mid = total before + (e.length + 1)} (omega arith) (omega arith)
      (own_passed before e [] split a.0 b)
      (passed_none (omega arith))
  from_passed before e (f ∷ after) split a b =
      let whole = ap total (sym split) ∙ total-++ before (e ∷ f ∷ after) in
      let start : total (before ++ (e ∷ [])) ≡ total before + e.length = omega (arith, total-++ before (e ∷ [])) in
      passed-++ {mid = total before + e.length} (omega arith) (omega arith)
      (own_passed before e (f ∷ after) split a.0 b)
      (rw start at (from_passed (before ++ (e ∷ [])) f after (append_assoc before (e ∷ []) (f ∷ after) ∙ split) a.1 (best_of (D es p) b (element_visits (D es p) e.length e.length (total before) b))))

pub second_passed : (es : List Element) (p : Point) → 0 < length es → AllAccepted es → Passed (D es p) 0 (total es + 1) (first_best (D es p) (total es)) (second_visits es p)
unfolding second_visits total
second_passed [] p some a = absurd (omega arith)
second_passed (e ∷ es) p some a = from_passed (e ∷ es) p [] e es refl a (first_best (D (e ∷ es) p) (total (e ∷ es)))
