-- docs/RULES.md, chapter 5; document 01, "The walk": the stations that both passes visit, in their order.
use Rattle.std.specs.Prelude.{ℕ, zero, suc, ◌+◌, ◌-◌, ◌/◌, ◌%◌, min, Bool, true, false, cond, List, [], ◌∷◌, ◌++◌, length, eqb}
use Rattle.integers.specs.Root.{root}
use Rattle.model.specs.declared.Element.{Element}
use Rattle.model.specs.declared.Point.{Point}
use Rattle.model.specs.Stations.{total, D}

-- ---- its numbers

-- "First every station that is a multiple of 1,000"
abbrev pub first_step : ℕ
first_step = 1000

-- "the next station is s + 1 if a − b < 31, else s + 1 + (a − b − 31) div 150"
abbrev pub root_slack : ℕ
root_slack = 31

abbrev pub step_divisor : ℕ
step_divisor = 150

-- ---- the first pass

-- n stations from s on, a step apart
unfoldable pub multiples_from : ℕ → ℕ → List ℕ
multiples_from zero s = []
multiples_from (suc n) s = s ∷ multiples_from n (s + first_step)

-- "First every station that is a multiple of 1,000, and T if it isn't one"
unfoldable pub first_visits : ℕ → List ℕ
unfolding multiples_from
first_visits t = multiples_from (t / first_step + 1) 0 ++ cond (eqb (t % first_step) 0) [] (t ∷ [])

-- "the best D of these is kept": the least d of the stations, and of b
unfoldable pub best_of : (ℕ → ℕ) → ℕ → List ℕ → ℕ
best_of d b [] = b
best_of d b (s ∷ ss) = best_of d (min b (d s)) ss

unfoldable pub first_best : (ℕ → ℕ) → ℕ → ℕ
unfolding best_of first_visits
first_best d t = best_of d (d 0) (first_visits t)

-- ---- the second pass

-- "with a and b the whole square roots, rounded down, of D(s) and of the best, the next station is s + 1 if a − b < 31, else s + 1 + (a − b − 31) div 150":
-- how many stations are left out. The subtraction of natural numbers stops at 0, and so does what is left out where a − b < 31.
unfoldable pub skipped : ℕ → ℕ → ℕ
unfolding root
skipped here best = (root here - root best - root_slack) / step_divisor

-- An element's own stations from s on, n of them, where the best so far is b. "a step beyond an element's last own station goes to the next element's first":
-- with fewer than j + 1 stations left none is visited. The first argument only bounds the recursion; n is enough.
unfoldable pub element_visits : (ℕ → ℕ) → ℕ → ℕ → ℕ → ℕ → List ℕ
unfolding skipped
element_visits d zero n s b = []
element_visits d (suc k) zero s b = []
element_visits d (suc k) (suc n) s b =
    -- "at s the best becomes D(s) if that is less"
    let best = min b (d s) in
    let j = skipped (d s) best in
    s ∷ element_visits d k (n - j) (s + 1 + j) best

-- how many stations are an element's own, where es follow it: "T belongs to the last"
unfoldable pub own_stations : Element → List Element → ℕ
own_stations e [] = e.length + 1
own_stations e (f ∷ es) = e.length

-- "Then from station 0 .. after the last element the walk ends": from the first of the elements, whose first station is s
unfoldable pub second_from : (ℕ → ℕ) → List Element → ℕ → ℕ → List ℕ
unfolding element_visits own_stations best_of
second_from d [] s b = []
second_from d (e ∷ es) s b =
    let visits = element_visits d (own_stations e es) (own_stations e es) s b in
    visits ++ second_from d es (s + e.length) (best_of d b visits)

-- "Then from station 0", with the best of the first pass
unfoldable pub second_visits : List Element → Point → List ℕ
unfolding second_from first_best D total
second_visits es p = second_from (D es p) es 0 (first_best (D es p) (total es))

-- ---- the walk

-- the visits "in both passes"
unfoldable pub visits : List Element → Point → List ℕ
unfolding first_visits second_visits total
visits es p = first_visits (total es) ++ second_visits es p

-- "The count is all visits in both passes."
unfoldable pub visit_count : List Element → Point → ℕ
unfolding visits
visit_count es p = length (visits es p)

-- whether a station is among the visited ones
unfoldable pub is_in : ℕ → List ℕ → Bool
is_in s [] = false
is_in s (v ∷ vs) = cond (eqb s v) true (is_in s vs)
