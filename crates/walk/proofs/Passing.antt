-- A pass over all elements: each element's own stations are seen by the element's own distance, and together they are the stations of document 01's walk.
use mathlib.Core.Bool.{Bool, true, false, cond, ◌||◌}
use mathlib.Core.List.{List, [], ◌∷◌, ◌++◌, append_assoc, append-nil}
use mathlib.Core.Logic.{◌≢◌}
use mathlib.Core.Path.{◌≡◌, refl, sym, ◌∙◌, ap}
use Prim.Native.Nat.{ℕ, zero, suc, ◌+◌, ◌-◌, ◌*◌, ◌/◌, ◌%◌, ◌≤◌, ◌<◌, min}
use native.Mathlib.Omega.{arith}
use native.Mathlib.Nat.{le_refl}
use native.Mathlib.Numerals.{add-one}
use lib.ListN.{length, take, drop, length-append, take-append-drop, drop_of_length-le}
use lib.Dec.{eqb}
use borrow.Author.Tests.{eq-eqb, ne_eqb, eqb-false}
use Rattle.model.specs.declared.Element.{Element}
use Rattle.model.specs.declared.Point.{Point}
use Rattle.model.specs.Stations.{total, D}
use Rattle.model.specs.Walk.{multiples_from, first_visits, best_of, skipped, element_visits, own_stations, second_from}
use Rattle.walk.specs.declared.Pass.{Pass}
use Rattle.walk.specs.declared.Pass.TheVariants.{First, Second}
use Rattle.walk.specs.declared.Seen.{Seen}
use Rattle.walk.specs.Search.{seen_at, seen_over, on_element, above, end_visit, first_on, pass_visits, pass_on, pass_over}
use Rattle.walk_laws.proofs.Own.{own_between, D_own, total_at}
use Rattle.walk_laws.proofs.Visits.{Rising, none, next, rising_from, rising_length, multiples_rise, best_of-≤}
use Rattle.walk.proofs.Seeing.{seen_over-++, seen_over_best, seen_over_visits}

-- ---- one element: its visits are own stations, and a distance that is the same on these gives the same

element_rises : (d : ℕ → ℕ) (hi k n s b : ℕ) → n ≡ hi - s → Rising hi s (element_visits d k n s b)
unfolding element_visits
element_rises d hi zero n s b e = none
element_rises d hi (suc k) zero s b e = none
element_rises d hi (suc k) (suc n) s b e =
    let best = min b (d s) in
    let j = skipped (d s) best in
    next s (le_refl s) (omega arith) (rising_from (omega arith) (element_rises d hi k (n - j) (s + 1 + j) best (omega arith)))

first_rises : (own s : ℕ) → Rising (s + own) s (first_on own s)
unfolding first_on
first_rises own s = rising_from {mid = above s * 1000} (omega arith) (multiples_rise (s + own) (above (s + own) - above s) (above s * 1000) (omega arith))

end_rises : (n own s : ℕ) → n ≤ own → Rising (s + own) s (end_visit n own s)
unfolding end_visit
end_rises n own s h = go (eqb own n) (eqb ((s + n) % 1000) 0) refl
  where
    go : (b c : Bool) → eqb own n ≡ b → Rising (s + own) s (cond (b || c) [] ((s + n) ∷ []))
    go true c e = none
    go false true e = none
    go false false e = let z : own ≢ n = eqb-false own n e in next {lo = s} (s + n) (omega arith) (omega arith) none

module _ (d f : ℕ → ℕ) (lo hi : ℕ) (same : (s : ℕ) → lo ≤ s → s < hi → d s ≡ f s) where
  seen_same : {at : ℕ} {vs : List ℕ} → lo ≤ at → Rising hi at vs → (w : Seen) → seen_over d vs w ≡ seen_over f vs w
  unfolding seen_over
  seen_same h none w = refl
  seen_same h (next {ss = vs} s l k r) w = rw (same s (omega arith) k) (seen_same (omega arith) r (seen_at (f s) s w))

  element_same : (k n s b : ℕ) → n ≡ hi - s → lo ≤ s → element_visits d k n s b ≡ element_visits f k n s b
  unfolding element_visits
  element_same zero n s b e l = refl
  element_same (suc k) zero s b e l = refl
  element_same (suc k) (suc n) s b e l =
      let best = min b (f s) in
      let j = skipped (f s) best in
      rw (same s l (omega arith)) (ap (λ (vs : List ℕ). s ∷ vs) (element_same k (n - j) (s + 1 + j) best (omega arith) (omega arith)))

pass_same : (pass : Pass) (d f : ℕ → ℕ) (n own s : ℕ) → n ≤ own → ((x : ℕ) → s ≤ x → x < s + own → d x ≡ f x) → (w : Seen) → pass_on pass d n own s w ≡ pass_on pass f n own s w
unfolding pass_on pass_visits
pass_same First d f n own s h same w =
    seen_over-++ d (first_on own s) (end_visit n own s) w
    ∙ seen_same d f s (s + own) same (le_refl s) (end_rises n own s h) (seen_over d (first_on own s) w)
    ∙ ap (seen_over f (end_visit n own s)) (seen_same d f s (s + own) same (le_refl s) (first_rises own s) w)
    ∙ sym (seen_over-++ f (first_on own s) (end_visit n own s) w)
pass_same Second d f n own s h same w =
    let e : own ≡ s + own - s = omega arith in
    seen_same d f s (s + own) same (le_refl s) (element_rises d (s + own) own own s w.best e) w
    ∙ ap (λ (vs : List ℕ). seen_over f vs w) (element_same d f s (s + own) same own own s w.best e (le_refl s))

pub first_length : (own s : ℕ) → length (first_on own s) ≤ own
first_length own s = omega (arith, rising_length (first_rises own s))

end_length : (n own s : ℕ) → length (end_visit n own s) ≤ 1
unfolding end_visit
end_length n own s = go (eqb own n || eqb ((s + n) % 1000) 0)
  where
    go : (b : Bool) → length (cond b [] ((s + n) ∷ [])) ≤ 1
    go true = omega arith
    go false = omega arith

pass_length : (pass : Pass) (d : ℕ → ℕ) (n own s b : ℕ) → length (pass_visits pass d n own s b) ≤ own + 1
unfolding pass_visits
pass_length First d n own s b = omega (arith, length-append (first_on own s) (end_visit n own s), first_length own s, end_length n own s)
pass_length Second d n own s b = omega (arith, rising_length (element_rises d (s + own) own own s b (omega arith)))

pass_visits_lem : (pass : Pass) (d : ℕ → ℕ) (n own s : ℕ) (w : Seen) → (pass_on pass d n own s w).visits ≤ w.visits + own + 1
unfolding pass_on
pass_visits_lem pass d n own s w = omega (arith, seen_over_visits d (pass_visits pass d n own s w.best) w, pass_length pass d n own s w.best)

pass_best : (pass : Pass) (d : ℕ → ℕ) (n own s : ℕ) (w : Seen) → (pass_on pass d n own s w).best ≤ w.best
unfolding pass_on
pass_best pass d n own s w = let vs = pass_visits pass d n own s w.best in omega (arith, seen_over_best d vs w, best_of-≤ d w.best vs)

-- ---- all elements: what is seen after them

pub over_best : (pass : Pass) (d : ℕ → ℕ) (es : List Element) (s : ℕ) (w : Seen) → (pass_over pass d es s w).best ≤ w.best
unfolding pass_over
over_best pass d [] s w = omega arith
over_best pass d (e ∷ es) s w =
    let own = own_stations e es in
    omega (arith, over_best pass d es (s + e.length) (pass_on pass d e.length own s w), pass_best pass d e.length own s w)

pub over_visits : (pass : Pass) (d : ℕ → ℕ) (es : List Element) (s : ℕ) (w : Seen) → (pass_over pass d es s w).visits ≤ w.visits + total es + 2 * length es
unfolding pass_over total
over_visits pass d [] s w = omega arith
over_visits pass d (e ∷ es) s w =
    let own = own_stations e es in
    omega (arith, over_visits pass d es (s + e.length) (pass_on pass d e.length own s w), pass_visits_lem pass d e.length own s w, own_between e es)

-- ---- the stations of the walk

-- the second pass
pub second_is : (d : ℕ → ℕ) (es : List Element) (s : ℕ) (w : Seen) → pass_over Second d es s w ≡ seen_over d (second_from d es s w.best) w
unfolding pass_over second_from pass_on pass_visits seen_over
second_is d [] s w = refl
second_is d (e ∷ es) s w =
    let vs = element_visits d (own_stations e es) (own_stations e es) s w.best in
    let v = seen_over d vs w in
    second_is d es (s + e.length) v
    ∙ ap (λ (b : ℕ). seen_over d (second_from d es (s + e.length) b) v) (seen_over_best d vs w)
    ∙ sym (seen_over-++ d vs (second_from d es (s + e.length) (best_of d w.best vs)) w)

multiples_split : (m n s : ℕ) → multiples_from (m + n) s ≡ multiples_from m s ++ multiples_from n (s + m * 1000)
unfolding multiples_from
multiples_split zero n s = let a : 0 + n ≡ n = omega arith in let b : s + 0 * 1000 ≡ s = omega arith in rw (a, b)
multiples_split (suc m) n s =
    let a : suc m + n ≡ suc (m + n) = omega arith in
    let b : s + suc m * 1000 ≡ s + 1000 + m * 1000 = omega arith in
    rw (a, b) (ap (λ (vs : List ℕ). s ∷ vs) (multiples_split m n (s + 1000)))

multiples_next : (n s t : ℕ) → s + n ≤ t → first_on n s ++ multiples_from (above (t + 1) - above (s + n)) (above (s + n) * 1000) ≡ multiples_from (above (t + 1) - above s) (above s * 1000)
unfolding first_on
multiples_next n s t h =
    let k = above (s + n) - above s in
    let r = above (t + 1) - above (s + n) in
    let a : above (t + 1) - above s ≡ k + r = omega arith in
    let b : above s * 1000 + k * 1000 ≡ above (s + n) * 1000 = omega arith in
    cc (multiples_split k r (above s * 1000))

-- the multiples from s on and up to t, and t
unfoldable from : ℕ → ℕ → List ℕ
from s t = multiples_from (above (t + 1) - above s) (above s * 1000) ++ cond (eqb (t % 1000) 0) [] (t ∷ [])

from_0 : (t : ℕ) → from 0 t ≡ first_visits t
unfolding from first_visits
from_0 t =
    let a : above (t + 1) - above 0 ≡ t / 1000 + 1 = omega arith in
    ap (λ (n : ℕ). multiples_from n 0 ++ cond (eqb (t % 1000) 0) [] (t ∷ [])) a

from_last : (n s : ℕ) → first_on (n + 1) s ++ end_visit n (n + 1) s ≡ from s (s + n)
unfolding first_on end_visit from
from_last n s =
    let e : s + (n + 1) ≡ s + n + 1 = omega arith in
    rw (e, ne_eqb (n + 1) n (λ q. omega arith))

end_none : (n s : ℕ) → end_visit n n s ≡ []
unfolding end_visit
end_none n s = rw (eq-eqb n n refl)

from_next : (n s t : ℕ) → s + n ≤ t → (first_on n s ++ end_visit n n s) ++ from (s + n) t ≡ from s t
unfolding from
from_next n s t h =
    ap (λ (vs : List ℕ). (first_on n s ++ vs) ++ from (s + n) t) (end_none n s)
    ∙ ap (λ (vs : List ℕ). vs ++ from (s + n) t) (append-nil (first_on n s))
    ∙ sym (append_assoc (first_on n s) (multiples_from (above (t + 1) - above (s + n)) (above (s + n) * 1000)) (cond (eqb (t % 1000) 0) [] (t ∷ [])))
    ∙ ap (λ (vs : List ℕ). vs ++ cond (eqb (t % 1000) 0) [] (t ∷ [])) (multiples_next n s t h)

first_from : (d : ℕ → ℕ) (e : Element) (es : List Element) (s : ℕ) (w : Seen) → pass_over First d (e ∷ es) s w ≡ seen_over d (from s (s + total (e ∷ es))) w
unfolding pass_over pass_on pass_visits own_stations total
first_from d e [] s w =
    let k : e.length + 0 ≡ e.length = omega arith in
    rw k (ap (λ (vs : List ℕ). seen_over d vs w) (from_last e.length s))
first_from d e (f ∷ es) s w =
    let n = e.length in
    let vs = first_on n s ++ end_visit n n s in
    let k : s + n + total (f ∷ es) ≡ s + total (e ∷ f ∷ es) = omega arith in
    first_from d f es (s + n) (pass_on First d n n s w)
    ∙ ap (λ (t : ℕ). seen_over d (from (s + n) t) (seen_over d vs w)) k
    ∙ sym (seen_over-++ d vs (from (s + n) (s + total (e ∷ f ∷ es))) w)
    ∙ ap (λ (us : List ℕ). seen_over d us w) (from_next n s (s + total (e ∷ f ∷ es)) (omega arith))

pub first_is : (d : ℕ → ℕ) (es : List Element) → 0 < length es → (w : Seen) → pass_over First d es 0 w ≡ seen_over d (first_visits (total es)) w
first_is d [] h w = absurd (omega arith)
first_is d (e ∷ es) h w =
    let k : 0 + total (e ∷ es) ≡ total (e ∷ es) = omega arith in
    first_from d e es 0 w ∙ ap (λ (t : ℕ). seen_over d (from 0 t) w) k ∙ ap (λ (vs : List ℕ). seen_over d vs w) (from_0 (total (e ∷ es)))

-- ---- a loop over the elements u, at the i-th

-- T is an own station of the last one
pub own_is : (e : Element) (rest : List Element) (i count : ℕ) → i + 1 + length rest ≡ count → own_stations e rest ≡ cond (eqb (i + 1) count) (e.length + 1) e.length
unfolding own_stations
own_is e [] i count h = rw (eq-eqb (i + 1) count (omega arith))
own_is e (f ∷ es) i count h = rw (ne_eqb (i + 1) count (λ k. absurd (omega arith)))

-- what is left of the pass is the whole
pub record PassLeft (pass : Pass) (u : List Element) (q : Point) (w : Seen) (i : ℕ) (v : Seen) : Type 0 where
  pub rest : pass_over pass (D u q) (drop i u) (total (take i u)) v ≡ pass_over pass (D u q) u 0 w
  pub best : v.best ≤ w.best
  pub visits : v.visits ≤ w.visits + total (take i u) + 2 * i

pub left_start : {pass : Pass} {u : List Element} {q : Point} {w : Seen} → PassLeft pass u q w 0 w
unfolding total
left_start = record { rest = refl; best = omega arith; visits = omega arith }

first_over : (pass : Pass) (d : ℕ → ℕ) {l : List Element} {e : Element} {es : List Element} (s : ℕ) (v : Seen) → l ≡ e ∷ es → pass_over pass d l s v ≡ pass_over pass d es (s + e.length) (pass_on pass d e.length (own_stations e es) s v)
unfolding pass_over
first_over pass d s v q = ap (λ (x : List Element). pass_over pass d x s v) q

module _ {pass : Pass} {u : List Element} {q : Point} {w : Seen} {i : ℕ} {v : Seen} {e : Element} (l : PassLeft pass u q w i v) (split : drop i u ≡ e ∷ drop (suc i) u) where
  abbrev es : List Element
  es = drop (suc i) u

  abbrev s : ℕ
  s = total (take i u)

  -- where the element lies, the distance is its own
  left_same : (x : ℕ) → s ≤ x → x < s + own_stations e es → D u q x ≡ on_element e s q x
  unfolding on_element
  left_same x h k =
      let whole : take i u ++ (e ∷ es) ≡ u = ap (λ (y : List Element). take i u ++ y) (sym split) ∙ take-append-drop i u in
      let y : s + (x - s) ≡ x = omega arith in
      rw (whole, y) at (D_own (take i u) e es q (x - s) (omega arith))

  pub left_step : {v' : Seen} → v' ≡ pass_on pass (on_element e (total (take i u)) q) e.length (own_stations e (drop (suc i) u)) (total (take i u)) v → PassLeft pass u q w (i + 1) v'
  left_step {v'} p =
      let own = own_stations e es in
      let between = own_between e es in
      let f = on_element e s q in
      let n : i + 1 ≡ suc i = add-one i in
      let next : total (take (suc i) u) ≡ s + e.length = (total_at u i e split).0 in
      let same = pass_same pass (D u q) f e.length own s between.0 left_same v in
      let rest : pass_over pass (D u q) es (s + e.length) v' ≡ pass_over pass (D u q) u 0 w
      = ap (pass_over pass (D u q) es (s + e.length)) (p ∙ sym same) ∙ sym (first_over pass (D u q) s v split) ∙ l.rest in
      record {
        rest = rw (n, next) rest;
        best = omega (arith, l.best, ap (λ (x : Seen). x.best) p, pass_best pass f e.length own s v);
        visits = rw (n, next) (omega (arith, l.visits, ap (λ (x : Seen). x.visits) p, pass_visits_lem pass f e.length own s v, between.1));
      }

pub left_done : {pass : Pass} {u : List Element} {q : Point} {w : Seen} {i : ℕ} {v : Seen} → PassLeft pass u q w i v → length u ≤ i → v ≡ pass_over pass (D u q) u 0 w
unfolding pass_over
left_done {u} l h = rw (drop_of_length-le u h) at l.rest
