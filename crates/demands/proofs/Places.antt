-- The place that an order of refusals gives: where its rules go from place to place, a refusal is given exactly when its place is the first whose rules refuse, and they
-- refuse with it. By induction on the number of places, from what two parts of an order come to.
use Prim.Native.Nat.{ℕ, zero, suc, ◌+◌, ◌≤◌, ◌<◌}
use mathlib.Core.Bool.{Bool, true, false}
use mathlib.Core.List.{List, [], ◌∷◌, ◌++◌}
use mathlib.Core.Logic.Iff
use mathlib.Core.Logic.{◌≢◌, ◌⊎◌, inl, inr, ◌↔◌}
use mathlib.Core.Path.{◌≡◌, refl, sym, subst, ◌∙◌}
use native.Mathlib.Decide.{ℕ_discrete}
use native.Mathlib.Omega.{arith}
use Rattle.integers.proofs.Order.{clash}
use Rattle.model.specs.declared.Refusal.{Refusal}
use Rattle.model.specs.declared.Outcome.{Outcome}
use Rattle.model.specs.declared.Outcome.TheVariants.{Done, Refused}
use Rattle.model.specs.Refusals.{Reason, number, Rule, rule, refusal, or_refused, verdict, for_each}
use Rattle.model.proofs.Verdict.{verdict_after, refused_before}
use Rattle.model.proofs.Reasons.{Lacks, empty, other, lacks-++, lacks→not_given}

-- ---- two parts of an order

module _ (p q : List Rule) (w : Refusal) where
  -- a refusal comes from the first part, or from the second where the first refuses nothing
  pub two_parts : (verdict (p ++ q) ≡ Refused w) ↔ ((verdict p ≡ Refused w) ⊎ ((verdict p ≡ Done) × (verdict q ≡ Refused w)))
  two_parts = (go (verdict p) refl, back)
    where
      go : (o : Outcome) → verdict p ≡ o → verdict (p ++ q) ≡ Refused w → (verdict p ≡ Refused w) ⊎ ((verdict p ≡ Done) × (verdict q ≡ Refused w))
      go Done d e = inr (d, sym (verdict_after p q d) ∙ e)
      go (Refused x) d e = inl (d ∙ sym (refused_before p q d) ∙ e)

      back : (verdict p ≡ Refused w) ⊎ ((verdict p ≡ Done) × (verdict q ≡ Refused w)) → verdict (p ++ q) ≡ Refused w
      back (inl e) = refused_before p q e
      back (inr (d, e)) = verdict_after p q d ∙ e

  -- the one part where the other lacks its number
  pub second_part : Lacks w.number p → (verdict (p ++ q) ≡ Refused w) ↔ ((verdict p ≡ Done) × (verdict q ≡ Refused w))
  second_part l = Iff.trans two_parts (go, inr)
    where
      go : (verdict p ≡ Refused w) ⊎ ((verdict p ≡ Done) × (verdict q ≡ Refused w)) → (verdict p ≡ Done) × (verdict q ≡ Refused w)
      go (inl e) = absurd (lacks→not_given l e)
      go (inr x) = x

  pub first_part : Lacks w.number q → (verdict (p ++ q) ≡ Refused w) ↔ (verdict p ≡ Refused w)
  first_part l = Iff.trans two_parts (go, inl)
    where
      go : (verdict p ≡ Refused w) ⊎ ((verdict p ≡ Done) × (verdict q ≡ Refused w)) → verdict p ≡ Refused w
      go (inl e) = e
      go (inr x) = absurd (lacks→not_given l x.1)

pub lacks_rule : (why : Reason) {place n : ℕ} {b : Bool} {rs : List Rule} → number why ≢ n → Lacks n rs → Lacks n (rule why place b ∷ rs)
lacks_rule why h l = other h l

pub lacks_for_each : {m : ℕ} {f : ℕ → List Rule} → ((k : ℕ) → Lacks m (f k)) → (n i : ℕ) → Lacks m (for_each f n i)
unfolding for_each
lacks_for_each h zero i = empty
lacks_for_each h (suc n) i = lacks-++ (h i) (lacks_for_each h n (i + 1))

-- ---- places

-- every rule of the list has the place i
pub data AllAt (i : ℕ) : List Rule → Type 0 where
  nowhere : AllAt i []
  here : {r : Rule} {rs : List Rule} → r.place ≡ i → AllAt i rs → AllAt i (r ∷ rs)

place_given : {i : ℕ} {rs : List Rule} {w : Refusal} → AllAt i rs → verdict rs ≡ Refused w → w.place ≡ i
unfolding verdict or_refused refusal
place_given nowhere e = clash cc
place_given {i} {w = w} (here {r} {rs} h a) e = go r.holds (place_given a) e
  where
    go : (b : Bool) → (verdict rs ≡ Refused w → w.place ≡ i) → or_refused b r.why r.place (verdict rs) ≡ Refused w → w.place ≡ i
    go true rest e = rest e
    go false rest e = cc

module _ (f : ℕ → List Rule) (at : (k : ℕ) → AllAt k (f k)) (w : Refusal) where
  -- of n places from i on, the refusal's is the first that refuses
  record FirstOf (n i : ℕ) : Type 0 where
    pub from : i ≤ w.place
    pub within : w.place < i + n
    pub earlier : (k : ℕ) → i ≤ k → k < w.place → verdict (f k) ≡ Done
    pub refuses : verdict (f w.place) ≡ Refused w

  refused→place : (n i : ℕ) → verdict (for_each f n i) ≡ Refused w → FirstOf n i
  unfolding for_each verdict
  refused→place zero i e = clash cc
  refused→place (suc n) i e = go (refused→place n (i + 1)) ((two_parts (f i) (for_each f n (i + 1)) w).0 e)
    where
      by : verdict (f i) ≡ Done → FirstOf n (i + 1) → (k : ℕ) → i ≤ k → k < w.place → Dec (k ≡ i) → verdict (f k) ≡ Done
      by d later k h l (yes s) = rw s d
      by d later k h l (no s) = later.earlier k (omega arith) l

      go : (verdict (for_each f n (i + 1)) ≡ Refused w → FirstOf n (i + 1)) → (verdict (f i) ≡ Refused w) ⊎ ((verdict (f i) ≡ Done) × (verdict (for_each f n (i + 1)) ≡ Refused w)) → FirstOf (suc n) i
      go rest (inl e) =
          let p = place_given (at i) e in
          record { from = omega arith; within = omega arith; earlier = λ k h l. absurd (omega arith); refuses = subst (λ k. verdict (f k) ≡ Refused w) (sym p) e }
      go rest (inr (d, e)) =
          let later = rest e in
          record { from = omega (arith, later.from); within = omega (arith, later.within); earlier = λ k h l. by d later k h l (ℕ_discrete k i); refuses = later.refuses }

  place→refused : (n i : ℕ) → FirstOf n i → verdict (for_each f n i) ≡ Refused w
  unfolding for_each
  place→refused zero i x = absurd (omega (arith, x.from, x.within))
  place→refused (suc n) i x = go (place→refused n (i + 1)) (ℕ_discrete i w.place)
    where
      go : (FirstOf n (i + 1) → verdict (for_each f n (i + 1)) ≡ Refused w) → Dec (i ≡ w.place) → verdict (f i ++ for_each f n (i + 1)) ≡ Refused w
      go rest (yes s) = refused_before (f i) (for_each f n (i + 1)) (rw s x.refuses)
      go rest (no s) =
          verdict_after (f i) (for_each f n (i + 1)) (x.earlier i (omega arith) (omega (arith, x.from)))
          ∙ rest (record { from = omega (arith, x.from); within = omega (arith, x.within); earlier = λ k h l. x.earlier k (omega arith) l; refuses = x.refuses })

  -- The refusal is given exactly when nothing before the places refuses, none of the places before its own does, and its own refuses with it.
  pub given_at_place : (before after : List Rule) (n : ℕ) → Lacks w.number before → Lacks w.number after →
      (verdict (before ++ (for_each f n 0 ++ after)) ≡ Refused w)
      ↔ ((verdict before ≡ Done) × (w.place < n) × ((k : ℕ) → k < w.place → verdict (f k) ≡ Done) × (verdict (f w.place) ≡ Refused w))
  given_at_place before after n l m =
      let second = second_part before (for_each f n 0 ++ after) w l in
      let first = first_part (for_each f n 0) after w m in (
        (λ e.
            let (done, given) = second.0 e in
            let x = refused→place n 0 (first.0 given) in
            (done, omega (arith, x.within), (λ k h. x.earlier k (omega arith) h), x.refuses)),
        (λ x.
            let at_first : FirstOf n 0 = record { from = omega arith; within = omega (arith, x.1); earlier = λ k h l. x.2 k l; refuses = x.3 } in
            second.1 (x.0, first.1 (place→refused n 0 at_first))),
      )
