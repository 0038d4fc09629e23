-- Lists of stations: which are in one, that they rise, and the best D of one. Each fact is by induction over the list.
use mathlib.Core.Bool.{Bool, true, false, cond, ◌||◌}
use mathlib.Core.List.{List, [], ◌∷◌, ◌++◌}
use mathlib.Core.Logic.{◌≢◌}
use mathlib.Core.Path.{◌≡◌, refl, sym, ◌∙◌, ap}
use Prim.Native.Nat.{ℕ, zero, suc, ◌+◌, ◌-◌, ◌*◌, ◌/◌, ◌%◌, ◌≤◌, ◌<◌, min}
use native.Mathlib.Omega.{arith}
use native.Mathlib.Nat.{le_refl, le_trans}
use lib.ListN.{length}
use lib.Dec.{eqb}
use borrow.Author.Tests.{eqb-true, eqb-false}
use Rattle.integers.proofs.Order.{clash}
use Rattle.model.specs.Walk.{multiples_from, first_visits, best_of, is_in}

-- ---- which stations are in a list

pub is_in-++ : (s : ℕ) (vs ws : List ℕ) → is_in s (vs ++ ws) ≡ (is_in s vs || is_in s ws)
unfolding is_in
is_in-++ s [] ws = refl
is_in-++ s (v ∷ vs) ws = go (eqb s v) (is_in-++ s vs ws)
  where
    go : (b : Bool) → is_in s (vs ++ ws) ≡ (is_in s vs || is_in s ws) → cond b true (is_in s (vs ++ ws)) ≡ (cond b true (is_in s vs) || is_in s ws)
    go true h = refl
    go false h = h

-- s is the first of a list that begins with v, or is in the list where it is in the rest
pub data Place (s v : ℕ) (vs : List ℕ) : Type 0 where
  here : s ≡ v → is_in s (v ∷ vs) ≡ true → Place s v vs
  later : s ≢ v → is_in s (v ∷ vs) ≡ is_in s vs → Place s v vs

pub place : (s v : ℕ) (vs : List ℕ) → Place s v vs
unfolding is_in
place s v vs = go (eqb s v) refl
  where
    go : (b : Bool) → eqb s v ≡ b → Place s v vs
    go true e = here (eqb-true s v e) (rw e)
    go false e = later (eqb-false s v e) (rw e)

pub not_in_none : (s : ℕ) → is_in s [] ≡ true → ⊥
unfolding is_in
not_in_none s e = clash cc

-- ---- lists that rise

-- stations from lo on and below hi, each greater than the one before it
pub data Rising (hi : ℕ) : ℕ → List ℕ → Type 0 where
  none : {lo : ℕ} → Rising hi lo []
  next : {lo : ℕ} {ss : List ℕ} (s : ℕ) → lo ≤ s → s < hi → Rising hi (s + 1) ss → Rising hi lo (s ∷ ss)

pub rising_from : {lo mid hi : ℕ} {ss : List ℕ} → lo ≤ mid → Rising hi mid ss → Rising hi lo ss
rising_from h none = none
rising_from h (next s l k r) = next s (le_trans h l) k r

pub rising-++ : {mid lo hi : ℕ} {vs ws : List ℕ} → lo ≤ mid → mid ≤ hi → Rising mid lo vs → Rising hi mid ws → Rising hi lo (vs ++ ws)
rising-++ h k none r = rising_from h r
rising-++ h k (next s l m q) r = next s l (omega arith) (rising-++ (omega arith) k q r)

pub rising_length : {hi lo : ℕ} {vs : List ℕ} → Rising hi lo vs → length vs ≤ hi - lo
rising_length none = omega arith
rising_length (next s l k r) = omega (arith, rising_length r)

pub rising_within : {hi lo : ℕ} {vs : List ℕ} → Rising hi lo vs → (s : ℕ) → is_in s vs ≡ true → (lo ≤ s) × (s < hi)
rising_within none s e = absurd (not_in_none s e)
rising_within {hi} {lo} (next {ss = vs} v l k r) s e = go (rising_within r s) (place s v vs)
  where
    go : (is_in s vs ≡ true → (v + 1 ≤ s) × (s < hi)) → Place s v vs → (lo ≤ s) × (s < hi)
    go rest (here q i) = (omega arith, omega arith)
    go rest (later q i) = let h = rest (sym i ∙ e) in (omega arith, h.1)

-- ---- the best of a list

pub best_of-≤ : (d : ℕ → ℕ) (b : ℕ) (vs : List ℕ) → best_of d b vs ≤ b
unfolding best_of
best_of-≤ d b [] = omega arith
best_of-≤ d b (v ∷ vs) = omega (arith, best_of-≤ d (min b (d v)) vs)

pub best_of-++ : (d : ℕ → ℕ) (b : ℕ) (vs ws : List ℕ) → best_of d b (vs ++ ws) ≡ best_of d (best_of d b vs) ws
unfolding best_of
best_of-++ d b [] ws = refl
best_of-++ d b (v ∷ vs) ws = best_of-++ d (min b (d v)) vs ws

pub best_of_in-≤ : (d : ℕ → ℕ) (b : ℕ) (vs : List ℕ) (s : ℕ) → is_in s vs ≡ true → best_of d b vs ≤ d s
unfolding best_of
best_of_in-≤ d b [] s e = absurd (not_in_none s e)
best_of_in-≤ d b (v ∷ vs) s e = go (best_of_in-≤ d (min b (d v)) vs s) (place s v vs)
  where
    go : (is_in s vs ≡ true → best_of d (min b (d v)) vs ≤ d s) → Place s v vs → best_of d (min b (d v)) vs ≤ d s
    go rest (here q i) = omega (arith, best_of-≤ d (min b (d v)) vs, ap d q)
    go rest (later q i) = rest (sym i ∙ e)

-- what is at most b, and at most the d of every station of a list, is at most the best
pub ≤-best_of : (d : ℕ → ℕ) (c : ℕ) {hi : ℕ} (b : ℕ) {lo : ℕ} {vs : List ℕ} → c ≤ b → Rising hi lo vs → ((s : ℕ) → s < hi → c ≤ d s) → c ≤ best_of d b vs
unfolding best_of
≤-best_of d c b h none low = h
≤-best_of d c b h (next s l k r) low = ≤-best_of d c (min b (d s)) (omega (arith, low s k)) r low

-- ---- the first pass

pub multiples_rise : (hi n s : ℕ) → s + 1000 * n ≤ hi + 999 → Rising hi s (multiples_from n s)
unfolding multiples_from
multiples_rise hi zero s h = none
multiples_rise hi (suc n) s h = next s (le_refl s) (omega arith) (rising_from {mid = s + 1000} (omega arith) (multiples_rise hi n (s + 1000) (omega arith)))

pub first_rises : (t : ℕ) → Rising (t + 1) 0 (first_visits t)
unfolding first_visits
first_rises t = go (eqb (t % 1000) 0) refl
  where
    go : (b : Bool) → eqb (t % 1000) 0 ≡ b → Rising (t + 1) 0 (multiples_from (t / 1000 + 1) 0 ++ cond b [] (t ∷ []))
    go true e = rising-++ {mid = t + 1} (omega arith) (omega arith) (multiples_rise (t + 1) (t / 1000 + 1) 0 (omega arith)) none
    go false e =
        let h : t % 1000 ≢ 0 = eqb-false (t % 1000) 0 e in
        rising-++ {mid = t} (omega arith) (omega arith) (multiples_rise t (t / 1000 + 1) 0 (omega arith)) (next t (le_refl t) (omega arith) none)
