-- What the walk has seen after a list of stations: its best is the list's, its count is the list's length, and its station is the least of least D. And the steps of
-- the two passes over an element, with no bound on the recursion.
use mathlib.Core.List.{List, [], ◌∷◌, ◌++◌}
use mathlib.Core.Logic.{◌≢◌}
use mathlib.Core.Path.{◌≡◌, refl, sym, ◌∙◌, ap}
use Prim.Native.Nat.{ℕ, zero, suc, ◌+◌, ◌-◌, ◌%◌, ◌≤◌, ◌<◌, min}
use native.Mathlib.Omega.{arith}
use lib.ListN.{length}
use borrow.Author.Tests.{eq-eqb, ne_eqb}
use Rattle.model.specs.declared.Element.{Element}
use Rattle.model.specs.declared.Point.{Point}
use Rattle.model.specs.Series.{position_on}
use Rattle.model.specs.Stations.{distance_sq}
use Rattle.model.specs.Walk.{multiples_from, best_of, skipped, element_visits}
use Rattle.walk.specs.declared.Seen.{Seen}
use Rattle.walk.specs.Search.{seen_at, seen_over, on_element, end_visit}

-- ---- after a list of stations

pub seen_over-++ : (d : ℕ → ℕ) (vs ws : List ℕ) (w : Seen) → seen_over d (vs ++ ws) w ≡ seen_over d ws (seen_over d vs w)
unfolding seen_over
seen_over-++ d [] ws w = refl
seen_over-++ d (v ∷ vs) ws w = seen_over-++ d vs ws (seen_at (d v) v w)

pub seen_at_best : (x s : ℕ) (w : Seen) → (seen_at x s w).best ≡ min w.best x
unfolding seen_at
seen_at_best x s w = refl

pub seen_at_visits : (x s : ℕ) (w : Seen) → (seen_at x s w).visits ≡ w.visits + 1
unfolding seen_at
seen_at_visits x s w = refl

pub seen_over_best : (d : ℕ → ℕ) (vs : List ℕ) (w : Seen) → (seen_over d vs w).best ≡ best_of d w.best vs
unfolding seen_over best_of seen_at
seen_over_best d [] w = refl
seen_over_best d (v ∷ vs) w = seen_over_best d vs (seen_at (d v) v w)

pub seen_over_visits : (d : ℕ → ℕ) (vs : List ℕ) (w : Seen) → (seen_over d vs w).visits ≡ w.visits + length vs
unfolding seen_over
seen_over_visits d [] w = omega arith
seen_over_visits d (v ∷ vs) w = omega (arith, seen_over_visits d vs (seen_at (d v) v w), seen_at_visits (d v) v w)

-- ---- the first pass over an element

pub multiples_step : (d : ℕ → ℕ) (n m s x : ℕ) (w v : Seen) → n ≡ suc m → x ≡ d s → v ≡ seen_at x s w → seen_over d (multiples_from n s) w ≡ seen_over d (multiples_from m (s + 1000)) v
unfolding multiples_from seen_over
multiples_step d n m s x w v e ex ev = rw e (ap (seen_over d (multiples_from m (s + 1000))) (ap (λ (y : ℕ). seen_at y s w) (sym ex) ∙ sym ev))

pub multiples_none : (d : ℕ → ℕ) (n s : ℕ) (w : Seen) → n ≡ 0 → seen_over d (multiples_from n s) w ≡ w
unfolding multiples_from seen_over
multiples_none d n s w e = rw e

-- T, where it is an own station and no multiple
pub end_not_own : (d : ℕ → ℕ) (n own s : ℕ) (w : Seen) → own ≡ n → w ≡ seen_over d (end_visit n own s) w
unfolding end_visit seen_over
end_not_own d n own s w e = rw (eq-eqb own n e)

pub end_multiple : (d : ℕ → ℕ) (n own s : ℕ) (w : Seen) → own ≢ n → (s + n) % 1000 ≡ 0 → w ≡ seen_over d (end_visit n own s) w
unfolding end_visit seen_over
end_multiple d n own s w e m = rw (ne_eqb own n e, eq-eqb ((s + n) % 1000) 0 m)

pub end_visited : (d : ℕ → ℕ) (n own s x : ℕ) (w v : Seen) → own ≢ n → (s + n) % 1000 ≢ 0 → x ≡ d (s + n) → v ≡ seen_at x (s + n) w → v ≡ seen_over d (end_visit n own s) w
unfolding end_visit seen_over
end_visited d n own s x w v e m ex ev = rw (ne_eqb own n e, ne_eqb ((s + n) % 1000) 0 m) (ev ∙ ap (λ (y : ℕ). seen_at y (s + n) w) ex)

pub on_element_at : (e : Element) (start : ℕ) (q : Point) (s : ℕ) → distance_sq q (position_on e s) ≡ on_element e start q (start + s)
unfolding on_element
on_element_at e start q s = let k : start + s - start ≡ s = omega arith in rw k

-- ---- the second pass over an element

unfoldable pub second_on : (ℕ → ℕ) → ℕ → ℕ → Seen → Seen
second_on d n s w = seen_over d (element_visits d n n s w.best) w

-- any bound that is at least the number of stations serves
fuel : (d : ℕ → ℕ) (k m n s b : ℕ) → n ≤ k → n ≤ m → element_visits d k n s b ≡ element_visits d m n s b
unfolding element_visits
fuel d zero zero n s b h i = refl
fuel d zero (suc m) zero s b h i = refl
fuel d zero (suc m) (suc n) s b h i = absurd (omega arith)
fuel d (suc k) zero zero s b h i = refl
fuel d (suc k) zero (suc n) s b h i = absurd (omega arith)
fuel d (suc k) (suc m) zero s b h i = refl
fuel d (suc k) (suc m) (suc n) s b h i =
    let best = min b (d s) in
    let j = skipped (d s) best in
    ap (λ (vs : List ℕ). s ∷ vs) (fuel d k m (n - j) (s + 1 + j) best (omega arith) (omega arith))

second_more : (d : ℕ → ℕ) (n s : ℕ) (w : Seen) → second_on d (suc n) s w ≡ second_on d (n - skipped (d s) (min w.best (d s))) (s + 1 + skipped (d s) (min w.best (d s))) (seen_at (d s) s w)
unfolding second_on element_visits seen_over seen_at
second_more d n s w =
    let best = min w.best (d s) in
    let j = skipped (d s) best in
    ap (λ (vs : List ℕ). seen_over d vs (seen_at (d s) s w)) (fuel d n (n - j) (n - j) (s + 1 + j) best (omega arith) (omega arith))

-- one turn of a loop that goes up to hi, from what its calls ensure
pub second_step : (d : ℕ → ℕ) (hi s x j : ℕ) (w v : Seen) → s < hi → x ≡ d s → v ≡ seen_at x s w → j ≡ skipped x (min w.best x) → second_on d (hi - s) s w ≡ second_on d (hi - (s + 1 + j)) (s + 1 + j) v
second_step d hi s x j w v h ex ev ej =
    let m : ℕ = hi - s - 1 in
    let e1 : hi - s ≡ suc m = omega arith in
    let e2 : m - j ≡ hi - (s + 1 + j) = omega arith in
    cc (second_more d m s w)

pub second_none : (d : ℕ → ℕ) (n s : ℕ) (w : Seen) → n ≡ 0 → second_on d n s w ≡ w
unfolding second_on element_visits seen_over
second_none d n s w e = rw e
