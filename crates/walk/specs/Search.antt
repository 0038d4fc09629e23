-- Document 01, "The walk", as the search keeps it: the best D so far, the least station that has it, and how many stations were visited.
use Rattle.std.specs.Prelude.{ℕ, ◌+◌, ◌-◌, ◌*◌, ◌/◌, ◌%◌, ◌≤◌, ◌<◌, ◌^◌, min, Bool, cond, ◌&&◌, ◌||◌, List, [], ◌∷◌, ◌++◌, ◌≡◌, eqb, ltb}
use Rattle.integers.specs.Root.{root}
use Rattle.model.specs.declared.Element.{Element}
use Rattle.model.specs.declared.Point.{Point}
use Rattle.model.specs.Acceptance.{longest_alignment, longest_element}
use Rattle.model.specs.Series.{position_on}
use Rattle.model.specs.Stations.{distance_sq, D}
use Rattle.model.specs.Judged.{judged}
use Rattle.model.specs.Walk.{multiples_from, skipped, element_visits, own_stations, visit_count, first_step, root_slack}
use Rattle.plane.specs.Frame.{InFrame}
use Rattle.elements.specs.Extent.{unreached}
use Rattle.walk.specs.declared.Pass.{Pass}
use Rattle.walk.specs.declared.Pass.TheVariants.{First, Second}
use Rattle.walk.specs.declared.Seen.{Seen}
use Rattle.walk.specs.declared.visit.Stride.{Stride}
use Rattle.elements.specs.declared.Prepared.{Prepared}
use Rattle.elements.specs.Prepared.{Ready}

-- visits that can be counted on in 64 bits, and how many there may be before an element and before a pass, so that its own can be
abbrev pub countable : ℕ
countable = 2 ^ 62

abbrev pub countable_before_element : ℕ
countable_before_element = 2 ^ 60

abbrev pub countable_before_pass : ℕ
countable_before_pass = 2 ^ 40

-- no less than the square of a point's distance from a position in one coordinate
abbrev pub widest_square : ℕ
widest_square = 2 ^ 60

-- ---- one visit

-- "the least s with the least D": station s at the distance d is kept where d is less than the best, or is the best and s is less than its station
unfoldable pub nearer : ℕ → ℕ → Seen → Bool
nearer d s w = ltb d w.best || (eqb d w.best && ltb s w.at)

unfoldable pub seen_at : ℕ → ℕ → Seen → Seen
unfolding nearer
seen_at d s w = record { best = min w.best d; at = cond (nearer d s w) s w.at; visits = w.visits + 1 }

-- after the stations of a list, in its order
unfoldable pub seen_over : (ℕ → ℕ) → List ℕ → Seen → Seen
unfolding seen_at
seen_over d [] w = w
seen_over d (s ∷ ss) w = seen_over d ss (seen_at (d s) s w)

-- ---- the step to the next station

-- "s + 1 if a − b < 31": the root b of the best, and the limit (b + 31)², below which D has a root a with a − b < 31. A limit of 0 says that they are not known.
unfoldable pub Known : ℕ → Stride → Type 0
Known b t = 0 < t.limit → (t.root ≡ root b) × (t.limit ≡ (root b + root_slack) * (root b + root_slack))

-- the step after a visit at the distance d, where the best before it was b: "at s the best becomes D(s) if that is less"
pub record Strided (d b : ℕ) (r : Stride) : Type 0 where
  pub skip : r.skip ≡ skipped d (min b d)
  pub known : Known (min b d) r
  pub small : r.skip < 2 ^ 32

-- ---- one element, whose first station is s, which is n mm long and has `own` stations of its own

-- D at the element's own stations
unfoldable pub on_element : Element → ℕ → Point → ℕ → ℕ
unfolding distance_sq position_on
on_element e start q s = distance_sq q (position_on e (s - start))

-- how many multiples of the first pass's step lie below s
abbrev pub above : ℕ → ℕ
above s = (s + (first_step - 1)) / first_step

-- "and T if it isn't one": T is an own station of the last element
unfoldable pub end_visit : ℕ → ℕ → ℕ → List ℕ
end_visit n own s = cond (eqb own n || eqb ((s + n) % first_step) 0) [] ((s + n) ∷ [])

-- "every station that is a multiple of 1,000", of those from s on and below s + own
unfoldable pub first_on : ℕ → ℕ → List ℕ
unfolding multiples_from
first_on own s = multiples_from (above (s + own) - above s) (above s * first_step)

-- the stations that a pass visits on the element, where the best before it is b
unfoldable pub pass_visits : Pass → (ℕ → ℕ) → ℕ → ℕ → ℕ → ℕ → List ℕ
unfolding first_on end_visit element_visits
pass_visits First d n own s b = first_on own s ++ end_visit n own s
pass_visits Second d n own s b = element_visits d own own s b

-- what is seen after them
unfoldable pub pass_on : Pass → (ℕ → ℕ) → ℕ → ℕ → ℕ → Seen → Seen
unfolding seen_over pass_visits
pass_on pass d n own s w = seen_over d (pass_visits pass d n own s w.best) w

-- ---- all elements, of which the first begins at s

unfoldable pub pass_over : Pass → (ℕ → ℕ) → List Element → ℕ → Seen → Seen
unfolding pass_on own_stations
pass_over pass d [] s w = w
pass_over pass d (e ∷ es) s w = pass_over pass d es (s + e.length) (pass_on pass d e.length (own_stations e es) s w)

-- What the walk comes to: "The station judged is the least s with the least D", its D, and "all visits in both passes".
unfoldable pub walked_of : List Element → Point → Seen
unfolding judged D visit_count
walked_of es q = record { best = D es q (judged es q); at = judged es q; visits = visit_count es q }

-- ---- what a pass over one element asks

pub record Passable (p : Prepared) (own start : ℕ) (q : Point) (w : Seen) : Type 0 where
  pub ready : Ready p
  pub frame : InFrame q
  pub short : own ≤ p.element.length + 1
  pub long : p.element.length ≤ longest_element
  pub early : start ≤ longest_alignment
  pub best : w.best ≤ unreached
  pub visits : w.visits ≤ 2 ^ 61
