-- What is seen after both passes is the station judged: what is kept is as good as every station visited, so it is the least visited of least D.
use mathlib.Core.Bool.{Bool, true, false, cond, ◌&&◌, ◌||◌}
use mathlib.Core.List.{List, [], ◌∷◌, ◌++◌}
use mathlib.Core.Logic.{◌⊎◌, inl, inr, ⊎_elim, ◌≢◌}
use mathlib.Core.Path.{◌≡◌, refl, sym, ◌∙◌, ap, ap₂, subst}
use Prim.Native.Nat.{ℕ, ◌+◌, ◌/◌, ◌%◌, ◌≤◌, ◌<◌, min}
use native.Mathlib.Omega.{arith}
use native.Mathlib.Decide.{dec_lt}
use native.Mathlib.Nat.{le_refl, min-eq_right}
use native.Mathlib.Numerals.{add-one}
use lib.ListN.{length}
use lib.Dec.{eqb, ltb}
use borrow.Author.Tests.{ltb-true, ltb-false, eqb-true, eqb-false}
use Rattle.model.specs.declared.Element.{Element}
use Rattle.model.specs.declared.Point.{Point}
use Rattle.model.specs.Accepted.{AllAccepted}
use Rattle.model.specs.Stations.{total, D}
use Rattle.model.specs.Walk.{multiples_from, first_visits, first_best, own_stations, second_from, second_visits, visits, visit_count, is_in}
use Rattle.model.proofs.Accepted.{numbers}
use Rattle.elements.proofs.Extent.{extent}
use Rattle.elements.specs.Extent.{unreached}
use Rattle.walk.specs.declared.Pass.TheVariants.{First, Second}
use Rattle.walk.specs.declared.Seen.{Seen}
use Rattle.plane.specs.Frame.{InFrame}
use Rattle.walk.specs.Search.{nearer, seen_at, seen_over, pass_over, walked_of}
use Rattle.walk_laws.proofs.Own.{own_between, D_own}
use Rattle.walk_laws.proofs.Visits.{Place, here, later, place, not_in_none}
use Rattle.walk_laws.proofs.Walked.{LeastIn, walk_best, walk_station}
use Rattle.walk.proofs.Seeing.{seen_over-++, seen_over_best, seen_over_visits}
use Rattle.walk.proofs.Passing.{first_is, second_is}

-- ---- what is kept

-- w is as good as a station at the distance x
record Under (x at : ℕ) (w : Seen) : Type 0 where
  low : w.best ≤ x
  strict : at < w.at → w.best < x

under_trans : {x at : ℕ} {v w : Seen} → Under x at v → Under v.best v.at w → Under x at w
under_trans {x} {at} {v} {w} p q = record { low = omega (arith, p.low, q.low); strict = λ h. go h (dec_lt v.at w.at) }
  where
    go : at < w.at → Dec (v.at < w.at) → w.best < x
    go h (yes k) = omega (arith, p.low, q.strict k)
    go h (no k) = omega (arith, q.low, p.strict (omega arith))

-- what a visit of station s at the distance x makes of w
record Visited (x s : ℕ) (w v : Seen) : Type 0 where
  this : Under x s v
  last : Under w.best w.at v
  came : ((v.best ≡ x) × (v.at ≡ s)) ⊎ ((v.best ≡ w.best) × (v.at ≡ w.at))

takes : (x s : ℕ) (w : Seen) → x ≤ w.best → (w.at < s → x < w.best) → Visited x s w (record { best = min w.best x; at = s; visits = w.visits + 1 })
takes x s w h k =
    record {
      this = record { low = omega arith; strict = λ l. absurd (omega arith) };
      last = record { low = omega arith; strict = λ l. omega (arith, k l) };
      came = inl (omega arith, refl);
    }

keeps : (x s : ℕ) (w : Seen) → w.best ≤ x → (s < w.at → w.best < x) → Visited x s w (record { best = min w.best x; at = w.at; visits = w.visits + 1 })
keeps x s w h k =
    record {
      this = record { low = omega arith; strict = λ l. omega (arith, k l) };
      last = record { low = omega arith; strict = λ l. absurd (omega arith) };
      came = inr (omega arith, refl);
    }

by_tests : (x s : ℕ) (w : Seen) (p q r : Bool) → ltb x w.best ≡ p → eqb x w.best ≡ q → ltb s w.at ≡ r →
    Visited x s w (record { best = min w.best x; at = cond (p || (q && r)) s w.at; visits = w.visits + 1 })
by_tests x s w true q r ep eq er = takes x s w (omega (arith, ltb-true x w.best ep)) (λ l. ltb-true x w.best ep)
by_tests x s w false true true ep eq er = takes x s w (omega (arith, eqb-true x w.best eq)) (λ l. absurd (omega (arith, ltb-true s w.at er)))
by_tests x s w false true false ep eq er = keeps x s w (ltb-false x w.best ep) (λ l. absurd (omega (arith, ltb-false s w.at er)))
by_tests x s w false false r ep eq er =
    let z : x ≢ w.best = eqb-false x w.best eq in
    keeps x s w (ltb-false x w.best ep) (λ l. omega (arith, ltb-false x w.best ep))

visited : (x s : ℕ) (w : Seen) → Visited x s w (seen_at x s w)
unfolding seen_at nearer
visited x s w = by_tests x s w (ltb x w.best) (eqb x w.best) (ltb s w.at) refl refl refl

-- what is kept after the stations vs, where w was kept before them
record Kept (d : ℕ → ℕ) (vs : List ℕ) (w r : Seen) : Type 0 where
  is : r.best ≡ d r.at
  last : Under w.best w.at r
  each : (v : ℕ) → is_in v vs ≡ true → Under (d v) v r
  came : (r.at ≡ w.at) ⊎ (is_in r.at vs ≡ true)

each_more : (d : ℕ → ℕ) {s u : ℕ} {ss : List ℕ} {r : Seen} → Place u s ss → is_in u (s ∷ ss) ≡ true → Under (d s) s r → ((v : ℕ) → is_in v ss ≡ true → Under (d v) v r) → Under (d u) u r
each_more d {r} (here e i) h p f = subst (λ (y : ℕ). Under (d y) y r) (sym e) p
each_more d {u} (later n i) h p f = f u (sym i ∙ h)

came_more : {a b c s : ℕ} {ss : List ℕ} → Place a s ss → (a ≡ b) ⊎ (is_in a ss ≡ true) → (b ≡ s) ⊎ (b ≡ c) → (a ≡ c) ⊎ (is_in a (s ∷ ss) ≡ true)
came_more (here e i) x y = inr i
came_more (later n i) (inr x) y = inr (i ∙ x)
came_more (later n i) (inl x) (inl y) = absurd (n (x ∙ y))
came_more (later n i) (inl x) (inr y) = inl (x ∙ y)

kept : (d : ℕ → ℕ) (vs : List ℕ) (w : Seen) → w.best ≡ d w.at → Kept d vs w (seen_over d vs w)
unfolding seen_over
kept d [] w e = record { is = e; last = record { low = omega arith; strict = λ h. absurd (omega arith) }; each = λ v i. absurd (not_in_none v i); came = inl refl }
kept d (s ∷ ss) w e = go (seen_at (d s) s w) (visited (d s) s w) (kept d ss (seen_at (d s) s w))
  where
    go : (v : Seen) → Visited (d s) s w v → (v.best ≡ d v.at → Kept d ss v (seen_over d ss v)) → Kept d (s ∷ ss) w (seen_over d ss v)
    go v x rest =
        let k = rest (⊎_elim (λ y. y.0 ∙ ap d (sym y.1)) (λ y. y.0 ∙ e ∙ ap d (sym y.1)) x.came) in
        let r = seen_over d ss v in
        record {
          is = k.is;
          last = under_trans x.last k.last;
          each = λ u i. each_more d (place u s ss) i (under_trans x.this k.last) k.each;
          came = came_more (place r.at s ss) k.came (⊎_elim (λ y. inl y.1) (λ y. inr y.1) x.came);
        }

-- from station 0, which is among the visits
kept_least : (d : ℕ → ℕ) (vs : List ℕ) → is_in 0 vs ≡ true → LeastIn d vs (seen_over d vs (record { best = d 0; at = 0; visits = 0 })).at
kept_least d vs i =
    let w : Seen = record { best = d 0; at = 0; visits = 0 } in
    let k = kept d vs w refl in
    record {
      visited = ⊎_elim (λ e. rw e i) (λ e. e) k.came;
      least = λ v h. omega (arith, k.is, (k.each v h).low);
      first = λ v h l. omega (arith, k.is, (k.each v h).strict l);
    }

-- ---- the start: station 0 is visited first, so that any greater best gives the same

abbrev pub start : ℕ → Seen
start b = record { best = b; at = 0; visits = 0 }

either : (b : Bool) (n : ℕ) → cond b n n ≡ n
either true n = refl
either false n = refl

start_at : (x b : ℕ) → x ≤ b → seen_at x 0 (start b) ≡ record { best = x; at = 0; visits = 1 }
unfolding seen_at
start_at x b h = rw (min-eq_right h, either (nearer x 0 (start b)) 0)

start_over : (d : ℕ → ℕ) (vs : List ℕ) (b c : ℕ) → d 0 ≤ b → d 0 ≤ c → seen_over d (0 ∷ vs) (start b) ≡ seen_over d (0 ∷ vs) (start c)
unfolding seen_over
start_over d vs b c h k = ap (seen_over d vs) (start_at (d 0) b h ∙ sym (start_at (d 0) c k))

first_begins : (t : ℕ) → first_visits t ≡ 0 ∷ (multiples_from (t / 1000) 1000 ++ cond (eqb (t % 1000) 0) [] (t ∷ []))
unfolding first_visits multiples_from
first_begins t = rw (add-one (t / 1000))

start_small : (es : List Element) → 0 < length es → AllAccepted es → (q : Point) → InFrame q → D es q 0 ≤ unreached
unfolding AllAccepted total
start_small [] h a q f = absurd (omega arith)
start_small (e ∷ es) h a q f =
    let own : 0 < own_stations e es = omega (arith, own_between e es, (numbers a.0).shortest) in
    omega (arith, D_own [] e es q 0 own, (extent a.0 {s = 0} (omega arith)).distance q f.x f.y)

seen_is : (r : Seen) {a b c : ℕ} → r.best ≡ a → r.at ≡ b → r.visits ≡ c → r ≡ record { best = a; at = b; visits = c }
seen_is r p q s = rw (← p, ← q, ← s)

module _ (es : List Element) (some : 0 < length es) (accepted : AllAccepted es) (q : Point) (frame : InFrame q) where
  abbrev d : ℕ → ℕ
  d = D es q

  abbrev first : List ℕ
  first = first_visits (total es)

  start_same : seen_over d first (start (unreached)) ≡ seen_over d first (start (d 0))
  start_same =
      let begins = first_begins (total es) in
      ap (λ (vs : List ℕ). seen_over d vs (start (unreached))) begins
      ∙ start_over d _ (unreached) (d 0) (start_small es some accepted q frame) (le_refl (d 0))
      ∙ ap (λ (vs : List ℕ). seen_over d vs (start (d 0))) (sym begins)

  after_first : (w : Seen) → w ≡ pass_over First (D es q) es 0 (start (unreached)) → w ≡ seen_over d first (start (d 0))
  after_first w e = e ∙ first_is d es some (start (unreached)) ∙ start_same

  first_best_lem : (w : Seen) → w ≡ seen_over d first (start (d 0)) → w.best ≡ first_best d (total es)
  unfolding first_best
  first_best_lem w e = ap (λ (x : Seen). x.best) e ∙ seen_over_best d first (start (d 0))

  after_second : (w v : Seen) → w ≡ seen_over d first (start (d 0)) → v ≡ pass_over Second (D es q) es 0 w → v ≡ seen_over d (visits es q) (start (d 0))
  unfolding visits second_visits
  after_second w v ew ev =
      ev
      ∙ second_is d es 0 w
      ∙ ap₂ (λ (b : ℕ) (x : Seen). seen_over d (second_from d es 0 b) x) (first_best_lem w ew) ew
      ∙ sym (seen_over-++ d first (second_visits es q) (start (d 0)))

  begins_0 : is_in 0 (visits es q) ≡ true
  unfolding visits is_in
  begins_0 = rw (first_begins (total es))

  -- both passes
  pub found : (w v : Seen) → w ≡ pass_over First (D es q) es 0 (start (unreached)) → v ≡ pass_over Second (D es q) es 0 w → v ≡ walked_of es q
  unfolding walked_of visit_count
  found w v ew ev =
      let all = visits es q in
      after_second w v (after_first w ew) ev
      ∙ seen_is (seen_over d all (start (d 0)))
      (seen_over_best d all (start (d 0)) ∙ walk_best es some accepted q)
      ((walk_station es some accepted q (seen_over d all (start (d 0))).at).0 (kept_least d all begins_0))
      (omega (arith, seen_over_visits d all (start (d 0))))
