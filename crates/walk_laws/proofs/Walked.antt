-- The walk's final best is the least D of all stations: the second pass leaves out only what lies farther. So the station judged, which has that D, is visited, and what
-- is left out lies farther than it.
use mathlib.Core.Bool.{Bool, true, false, ◌||◌}
use mathlib.Core.List.{List}
use mathlib.Core.Logic.{◌⊎◌, inl, inr, ⊎_elim, ◌↔◌}
use mathlib.Core.Path.{◌≡◌, refl, sym, ◌∙◌, subst}
use Prim.Native.Nat.{ℕ, ◌+◌, ◌≤◌, ◌<◌}
use native.Mathlib.Omega.{arith}
use native.Mathlib.Nat.{le_of_lt}
use native.Mathlib.Decide.{dec_lt}
use lib.ListN.{length}
use Rattle.model.specs.declared.Element.{Element}
use Rattle.model.specs.declared.Point.{Point}
use Rattle.model.specs.Accepted.{AllAccepted}
use Rattle.model.specs.Stations.{total, D}
use Rattle.model.specs.Judged.{judged, Least}
use Rattle.model.specs.Walk.{first_visits, best_of, first_best, second_visits, visits, is_in}
use Rattle.model.proofs.Judged.{judged_least}
use Rattle.walk_laws.proofs.Visits.{is_in-++, Rising, rising_within, best_of-++, best_of_in-≤, ≤-best_of, first_rises}
use Rattle.walk_laws.proofs.Passed.{Passed, second_passed}

-- a is the least of the stations vs of least d
pub record LeastIn (d : ℕ → ℕ) (vs : List ℕ) (a : ℕ) : Type 0 where
  pub visited : is_in a vs ≡ true
  pub least : (v : ℕ) → is_in v vs ≡ true → d a ≤ d v
  pub first : (v : ℕ) → is_in v vs ≡ true → v < a → d a < d v

least_in_unique : {d : ℕ → ℕ} {vs : List ℕ} {a b : ℕ} → LeastIn d vs a → LeastIn d vs b → a ≡ b
least_in_unique {a} {b} l m = go (dec_lt a b) (dec_lt b a)
  where
    go : Dec (a < b) → Dec (b < a) → a ≡ b
    go (yes h) k = absurd (omega (arith, m.first a l.visited h, l.least b m.visited))
    go (no h) (yes k) = absurd (omega (arith, l.first b m.visited k, m.least a l.visited))
    go (no h) (no k) = omega arith

-- Where the least station of least d is one of vs, which are on the alignment, it is the least of vs of least d, and no other is.
least_among : {d : ℕ → ℕ} {t b : ℕ} {vs : List ℕ} → Least d t b → is_in b vs ≡ true → ((v : ℕ) → is_in v vs ≡ true → v ≤ t) → (a : ℕ) → LeastIn d vs a ↔ (a ≡ b)
least_among {d} {b} {vs} l i on a = ((λ m. least_in_unique m here), (λ e. subst (LeastIn d vs) (sym e) here))
  where
    here : LeastIn d vs b
    here = record { visited = i; least = λ v h. l.least v (on v h); first = λ v h k. l.first v k }

or_cases : (a b : Bool) → (a || b) ≡ true → (a ≡ true) ⊎ (b ≡ true)
or_cases true b e = inl refl
or_cases false b e = inr e

or_true : (a b : Bool) → b ≡ true → (a || b) ≡ true
or_true true b e = refl
or_true false b e = e

-- a station on the alignment that the second pass does not visit
pub record LeftOut (es : List Element) (p : Point) (s : ℕ) : Type 0 where
  pub on : s ≤ total es
  pub unvisited : is_in s (second_visits es p) ≡ false

module _ (es : List Element) (some : 0 < length es) (accepted : AllAccepted es) (p : Point) where
  passed : Passed (D es p) 0 (total es + 1) (first_best (D es p) (total es)) (second_visits es p)
  passed = second_passed es p some accepted

  judged-≤ : (s : ℕ) → s < total es + 1 → D es p (judged es p) ≤ D es p s
  judged-≤ s h = (judged_least es p).least s (omega arith)

  pub second_rises : Rising (total es + 1) 0 (second_visits es p)
  second_rises = passed.rising

  judged-≤-first : D es p (judged es p) ≤ first_best (D es p) (total es)
  unfolding first_best
  judged-≤-first = ≤-best_of (D es p) (D es p (judged es p)) (D es p 0) (judged-≤ 0 (omega arith)) (first_rises (total es)) judged-≤

  second-≤-judged : best_of (D es p) (first_best (D es p) (total es)) (second_visits es p) ≤ D es p (judged es p)
  second-≤-judged = go (is_in (judged es p) (second_visits es p)) refl
    where
      go : (b : Bool) → is_in (judged es p) (second_visits es p) ≡ b → best_of (D es p) (first_best (D es p) (total es)) (second_visits es p) ≤ D es p (judged es p)
      go true e = best_of_in-≤ (D es p) (first_best (D es p) (total es)) (second_visits es p) (judged es p) e
      go false e = le_of_lt (passed.farther (judged es p) (omega arith) (omega (arith, (judged_least es p).within)) e)

  -- the best of the second pass, which begins with that of the first
  pub second_best : best_of (D es p) (first_best (D es p) (total es)) (second_visits es p) ≡ D es p (judged es p)
  second_best =
      omega (arith, second-≤-judged, ≤-best_of (D es p) (D es p (judged es p)) (first_best (D es p) (total es)) judged-≤-first second_rises judged-≤)

  pub walk_best : best_of (D es p) (D es p 0) (visits es p) ≡ D es p (judged es p)
  unfolding visits first_best
  walk_best = best_of-++ (D es p) (D es p 0) (first_visits (total es)) (second_visits es p) ∙ second_best

  -- demand 3: "every station that the walk's second pass leaves out lies farther from the point than the one judged"
  pub left_out_farther : (s : ℕ) → LeftOut es p s → D es p (judged es p) < D es p s
  left_out_farther s l = omega (arith, second_best, passed.farther s (omega arith) (omega (arith, l.on)) l.unvisited)

  pub judged_visited : is_in (judged es p) (second_visits es p) ≡ true
  judged_visited = go (is_in (judged es p) (second_visits es p)) refl
    where
      go : (b : Bool) → is_in (judged es p) (second_visits es p) ≡ b → is_in (judged es p) (second_visits es p) ≡ true
      go true e = e
      go false e = absurd (omega (arith, left_out_farther (judged es p) (record { on = (judged_least es p).within; unvisited = e })))

  pub second_on_lem : (v : ℕ) → is_in v (second_visits es p) ≡ true → v ≤ total es
  second_on_lem v e = omega (arith, rising_within second_rises v e)

  pub visits_on : (v : ℕ) → is_in v (visits es p) ≡ true → v ≤ total es
  unfolding visits
  visits_on v e =
      ⊎_elim
      (λ h. omega (arith, rising_within (first_rises (total es)) v h))
      (second_on_lem v)
      (or_cases (is_in v (first_visits (total es))) (is_in v (second_visits es p)) (sym (is_in-++ v (first_visits (total es)) (second_visits es p)) ∙ e))

  pub walk_station : (a : ℕ) → LeastIn (D es p) (visits es p) a ↔ (a ≡ judged es p)
  unfolding visits
  walk_station =
      least_among (judged_least es p)
      (is_in-++ (judged es p) (first_visits (total es)) (second_visits es p)
      ∙ or_true (is_in (judged es p) (first_visits (total es))) (is_in (judged es p) (second_visits es p)) judged_visited)
      visits_on
