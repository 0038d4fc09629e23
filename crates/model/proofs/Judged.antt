-- The station judged is on the alignment, no station is nearer, and every smaller one is farther; and there is one such station.
use Prim.Native.Nat.{ℕ, zero, suc, ◌≤◌, ◌<◌}
use mathlib.Core.Bool.{Bool, true, false, cond}
use mathlib.Core.List.{List}
use mathlib.Core.Path.{◌≡◌, refl, subst}
use native.Mathlib.Omega.{arith}
use native.Mathlib.Decide.{dec_le}
use lib.Dec.{ltb}
use borrow.Author.Tests.{ltb-true, ltb-false}
use Rattle.model.specs.declared.Element.{Element}
use Rattle.model.specs.declared.Point.{Point}
use Rattle.model.specs.Stations.{total, D}
use Rattle.model.specs.Judged.{least_of, Least, judged}

-- what holds up to t, and of suc t, holds up to suc t
up_to : {P : ℕ → Type 0} (t : ℕ) → ((s : ℕ) → s ≤ t → P s) → P (suc t) → (s : ℕ) → s ≤ suc t → P s
up_to {P} t f p s h = go (dec_le s t)
  where
    go : Dec (s ≤ t) → P s
    go (yes l) = f s l
    go (no n) = let e : suc t ≡ s = omega arith in subst P e p

nearer : (d : ℕ → ℕ) (t b : ℕ) → Least d t b → (x : Bool) → ltb (d (suc t)) (d b) ≡ x → Least d (suc t) (cond x (suc t) b)
nearer d t b l true e =
    let h : d (suc t) < d b = ltb-true (d (suc t)) (d b) e in
    record {
      within = omega arith;
      least = up_to t (λ s k. omega (arith, l.least s k)) (omega arith);
      first = λ s k. omega (arith, l.least s (omega arith));
    }
nearer d t b l false e =
    record { within = omega arith; least = up_to t l.least (ltb-false (d (suc t)) (d b) e); first = l.first }

pub least_of_least : (d : ℕ → ℕ) (t : ℕ) → Least d t (least_of d t)
unfolding least_of
least_of_least d zero =
    record {
      within = omega arith;
      least = λ s h. let e : s ≡ 0 = omega arith in rw e (omega arith);
      first = λ s h. absurd (omega arith);
    }
least_of_least d (suc t) = nearer d t (least_of d t) (least_of_least d t) (ltb (d (suc t)) (d (least_of d t))) refl

pub least_unique : (d : ℕ → ℕ) (t a b : ℕ) → Least d t a → Least d t b → a ≡ b
least_unique d t a b l m = go (dec_le a b) (dec_le b a)
  where
    go : Dec (a ≤ b) → Dec (b ≤ a) → a ≡ b
    go (yes p) (yes q) = omega arith
    go (yes p) (no q) = absurd (omega (arith, m.first a (omega arith), l.least b m.within))
    go (no p) (yes q) = absurd (omega (arith, l.first b (omega arith), m.least a l.within))
    go (no p) (no q) = omega arith

-- "The station judged is the least s with the least D"
pub judged_least : (es : List Element) (p : Point) → Least (D es p) (total es) (judged es p)
unfolding judged
judged_least es p = least_of_least (D es p) (total es)

pub judged_only : (es : List Element) (p : Point) (b : ℕ) → Least (D es p) (total es) b → b ≡ judged es p
judged_only es p b l = least_unique (D es p) (total es) b (judged es p) l (judged_least es p)
