-- An element's own stations lie on it, at the station less the lengths before it: by induction over the elements before it.
use mathlib.Core.Path.{◌≡◌, refl, ◌∙◌, ap}
use mathlib.Core.List.{List, [], ◌∷◌, ◌++◌}
use Prim.Native.Nat.{ℕ, suc, ◌+◌, ◌-◌, ◌≤◌, ◌<◌}
use native.Mathlib.Omega.{arith}
use native.Mathlib.Nat.{add-zero, zero-add}
use lib.ListN.{length, take, drop, take-append-drop}
use borrow.Author.Tests.{lt-ltb, le-ltb}
use Rattle.model.specs.declared.Element.{Element}
use Rattle.model.specs.declared.Point.{Point}
use Rattle.model.specs.Series.{position_on}
use Rattle.model.specs.Stations.{AtElement, at_element, at_from, at_station, total, position_at, distance_sq, D}
use Rattle.model.specs.Walk.{own_stations}

pub own_between : (e : Element) (es : List Element) → (e.length ≤ own_stations e es) × (own_stations e es ≤ e.length + 1)
unfolding own_stations
own_between e [] = (omega arith, omega arith)
own_between e (f ∷ es) = (omega arith, omega arith)

-- of elements of which the first has the number i
pub at_first : (i : ℕ) (e : Element) (es : List Element) (s : ℕ) → s < own_stations e es → at_from i (e ∷ es) s ≡ at_element i e s
unfolding at_from own_stations
at_first i e [] s h = refl
at_first i e (f ∷ es) s h = rw (lt-ltb s e.length h)

pub at_later : (i : ℕ) (e f : Element) (es : List Element) (s : ℕ) → at_from i (e ∷ f ∷ es) (e.length + s) ≡ at_from (i + 1) (f ∷ es) s
unfolding at_from
at_later i e f es s =
    let past : e.length ≤ e.length + s = omega arith in
    let rest : e.length + s - e.length ≡ s = omega arith in
    rw (le-ltb (e.length + s) e.length past, rest)

at_later_of : (i : ℕ) (b : Element) (bs : List Element) (e : Element) (after : List Element) (s : ℕ) → at_from i (b ∷ (bs ++ (e ∷ after))) (b.length + s) ≡ at_from (i + 1) (bs ++ (e ∷ after)) s
at_later_of i b [] e after s = at_later i b e after s
at_later_of i b (c ∷ bs) e after s = at_later i b c (bs ++ (e ∷ after)) s

own_from : (i : ℕ) (before : List Element) (e : Element) (after : List Element) (s : ℕ) → s < own_stations e after → at_from i (before ++ (e ∷ after)) (total before + s) ≡ at_element (i + length before) e s
unfolding total
own_from i [] e after s h = rw (zero-add s, add-zero i) (at_first i e after s h)
own_from i (b ∷ bs) e after s h =
    let regroup : b.length + total bs + s ≡ b.length + (total bs + s) = omega arith in
    let number : i + length (b ∷ bs) ≡ i + 1 + length bs = omega arith in
    rw (regroup, number) (at_later_of i b bs e after (total bs + s) ∙ own_from (i + 1) bs e after s h)

-- the station s mm from the start of e, where the elements `before` come before it and `after` after it
pub at_own : (before : List Element) (e : Element) (after : List Element) (s : ℕ) → s < own_stations e after → at_station (before ++ (e ∷ after)) (total before + s) ≡ at_element (length before) e s
unfolding at_station
at_own before e after s h = rw (← zero-add (length before)) (own_from 0 before e after s h)

pub D_own : (before : List Element) (e : Element) (after : List Element) (p : Point) (s : ℕ) → s < own_stations e after → D (before ++ (e ∷ after)) p (total before + s) ≡ distance_sq p (position_on e s)
unfolding D position_at
D_own before e after p s h = ap (λ (at : AtElement). distance_sq p (position_on at.element at.s)) (at_own before e after s h)

pub total-++ : (es fs : List Element) → total (es ++ fs) ≡ total es + total fs
unfolding total
total-++ [] fs = omega arith
total-++ (e ∷ es) fs = omega (arith, total-++ es fs)

-- where the i-th element ends
pub total_at : (u : List Element) (i : ℕ) (e : Element) → drop i u ≡ e ∷ drop (suc i) u → (total (take (suc i) u) ≡ total (take i u) + e.length) × (total (take i u) + e.length ≤ total u)
unfolding total
total_at u i e split =
    let rest = ap total split in
    let here = total-++ (take i u) (drop i u) in
    let next = total-++ (take (suc i) u) (drop (suc i) u) in
    let whole = ap total (take-append-drop i u) in
    let same = ap total (take-append-drop (suc i) u) in
    (omega (arith, here, next, whole, same, rest), omega (arith, here, whole, rest))
