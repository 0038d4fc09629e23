-- An order of refusals that is checked in steps: a part that refuses decides the outcome, and a part that does not leaves it to the rest.
use Prim.Native.Nat.{ℕ, suc, ◌+◌, ◌-◌, ◌≤◌, ◌<◌}
use mathlib.Core.Bool.{Bool, true, false}
use mathlib.Core.List.{List, [], ◌∷◌, ◌++◌}
use mathlib.Core.Path.{◌≡◌, ◌∙◌}
use native.Mathlib.Omega.{arith}
use Rattle.model.specs.declared.Refusal.{Refusal}
use Rattle.model.specs.declared.Outcome.TheVariants.{Done, Refused}
use Rattle.model.specs.Refusals.{Reason, Rule, rule, refusal, or_refused, verdict, for_each}
use Rattle.model.proofs.Verdict.{verdict_after, refused_before}

-- ---- one rule

pub one_done : (why : Reason) (place : ℕ) {b : Bool} → b ≡ true → verdict (rule why place b ∷ []) ≡ Done
unfolding verdict or_refused
one_done why place h = rw h

pub one_refused : (why : Reason) (place : ℕ) {b : Bool} → b ≡ false → verdict (rule why place b ∷ []) ≡ Refused (refusal why place)
unfolding verdict or_refused
one_refused why place h = rw h

-- ---- the places one after the other

-- of n places those before i refuse nothing
pub record Left (f : ℕ → List Rule) (n i : ℕ) : Type 0 where
  pub within : i ≤ n
  pub same : verdict (for_each f n 0) ≡ verdict (for_each f (n - i) i)

module _ (f : ℕ → List Rule) (n : ℕ) where
  pub left_all : Left f n 0
  left_all = let e : n - 0 ≡ n = omega arith in record { within = omega arith; same = rw e }

  next_place : {i : ℕ} → i < n → Left f n i → verdict (for_each f n 0) ≡ verdict (f i ++ for_each f (n - (i + 1)) (i + 1))
  unfolding for_each
  next_place {i} h l =
      let e : n - i ≡ suc (n - (i + 1)) = omega arith in
      rw e at l.same

  pub left_next : {i : ℕ} → i < n → verdict (f i) ≡ Done → Left f n i → Left f n (i + 1)
  left_next {i} h e l = record { within = omega arith; same = next_place h l ∙ verdict_after (f i) _ e }

  pub left_refused : {i : ℕ} {x : Refusal} → i < n → verdict (f i) ≡ Refused x → Left f n i → verdict (for_each f n 0) ≡ Refused x
  left_refused {i} h e l = next_place h l ∙ refused_before (f i) _ e

  pub left_none : {i : ℕ} → n ≤ i → Left f n i → verdict (for_each f n 0) ≡ Done
  unfolding for_each verdict
  left_none {i} h l =
      let e : n - i ≡ 0 = omega arith in
      rw e at l.same
