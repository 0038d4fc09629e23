-- Where a station lies: on the element whose own it is, by its number; and that element is accepted and long enough.
use Prim.Native.Nat.{ℕ, suc, ◌+◌, ◌-◌, ◌≤◌, ◌<◌}
use mathlib.Core.List.{List, [], ◌∷◌, ◌++◌}
use mathlib.Core.Path.{◌≡◌, sym, ap, subst, ◌∙◌}
use native.Mathlib.Decide.{dec_le}
use native.Mathlib.Nat.{le_of_lt}
use native.Mathlib.Omega.{arith}
use lib.ListN.{length, take, drop, take-append-drop}
use lib.Seq.{length-take-le}
use Rattle.model.specs.declared.Element.{Element}
use Rattle.model.specs.Stations.{AtElement, at_element, at_from, at_station, total}
use Rattle.model.specs.Walk.{own_stations}
use Rattle.model.specs.Accepted.{Accepted, AllAccepted}
use Rattle.walk_laws.proofs.Own.{at_first, at_later, at_own}

-- an own station of element i
pub at_number : (u : List Element) (i : ℕ) (e : Element) (s : ℕ) → i < length u → drop i u ≡ e ∷ drop (suc i) u → s < own_stations e (drop (suc i) u) → at_station u (total (take i u) + s) ≡ at_element i e s
at_number u i e s h split own =
    let whole : take i u ++ (e ∷ drop (suc i) u) ≡ u = ap (λ (l : List Element). take i u ++ l) (sym split) ∙ take-append-drop i u in
    rw (whole, length-take-le i u (le_of_lt h)) at (at_own (take i u) e (drop (suc i) u) s own)

-- what a place must have for the numbers of its element there
pub record AcceptedPlace (at : AtElement) : Type 0 where
  pub accepted : Accepted at.element
  pub within : at.s ≤ at.element.length

from : (i : ℕ) (e : Element) (es : List Element) (s : ℕ) → Accepted e → AllAccepted es → s ≤ e.length + total es → AcceptedPlace (at_from i (e ∷ es) s)
unfolding total AllAccepted own_stations
from i e [] s a b h = subst AcceptedPlace (sym (at_first i e [] s (omega arith))) (record { accepted = a; within = omega arith })
from i e (f ∷ es) s a b h = go (from (i + 1) f es (s - e.length) b.0 b.1) (dec_le e.length s)
  where
    go : (s - e.length ≤ f.length + total es → AcceptedPlace (at_from (i + 1) (f ∷ es) (s - e.length))) → Dec (e.length ≤ s) → AcceptedPlace (at_from i (e ∷ f ∷ es) s)
    go rest (yes k) =
        let past : e.length + (s - e.length) ≡ s = omega arith in
        subst AcceptedPlace (rw past at (sym (at_later i e f es (s - e.length)))) (rest (omega (arith, h)))
    go rest (no k) = subst AcceptedPlace (sym (at_first i e (f ∷ es) s (omega arith))) (record { accepted = a; within = omega arith })

pub at_accepted : (es : List Element) (s : ℕ) → 1 ≤ length es → AllAccepted es → s ≤ total es → AcceptedPlace (at_station es s)
unfolding total AllAccepted at_station
at_accepted [] s n a h = absurd (omega arith)
at_accepted (e ∷ es) s n a h = from 0 e es s a.0 a.1 h
