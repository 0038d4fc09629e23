-- A sighting's own rules before others, by the four tests: 7 for either pair, 11 for the place of the instrument, 15 for the distance, then the rest.
use Prim.Native.Nat.{ℕ, ◌≤◌}
use mathlib.Core.Bool.{Bool, true, false}
use mathlib.Core.List.{List, [], ◌∷◌, ◌++◌, append-nil}
use mathlib.Core.Logic.Iff
use mathlib.Core.Logic.{◌≢◌, ◌⊎◌, inl, inr, ⊎_map, ◌↔◌}
use mathlib.Core.Path.{◌≡◌, refl, sym, ap}
use native.Mathlib.Omega.{arith}
use borrow.Author.Tests.{leb-true, leb-false, le-leb, lt-leb}
use lib.Dec.{leb}
use lib.IntN.{ℤ, pos, negsuc}
use lib.Signed.{◌≤ℤ◌, ◌<ℤ◌}
use Rattle.integers.proofs.Order.{clash, order}
use Rattle.model.specs.declared.Refusal.{Refusal}
use Rattle.model.specs.declared.Outcome.TheVariants.{Done, Refused}
use Rattle.model.specs.declared.Sighting.{Sighting}
use Rattle.model.specs.Refusals.{Rule, rule₀, refusal, number, not_unit, outside_frame, asked_out_of_range, or_refused, verdict}
use Rattle.model.specs.Acceptance.{in_frame, is_unit}
use Rattle.model.specs.Sightings.{longest_sight, is_sight, sight_rules}
use Rattle.model.proofs.Reasons.{Lacks, empty, other, lacks→not_given}

-- ---- by the tests

abbrev ordered : Bool → Bool → Bool → Bool → List Rule → List Rule
ordered b a p d rest = rule₀ not_unit b ∷ rule₀ not_unit a ∷ rule₀ outside_frame p ∷ rule₀ asked_out_of_range d ∷ rest

number_of : {v w : Refusal} → Refused v ≡ Refused w → v.number ≡ w.number
number_of e = cc

place_of : {v w : Refusal} → Refused v ≡ Refused w → v.place ≡ w.place
place_of e = cc

neither : {A : Type 0} → (true ≡ false) ⊎ (true ≡ false) → A
neither (inl e) = clash cc
neither (inr e) = clash cc

module _ (rest : List Rule) where
  done_by : (b a p d : Bool) → (verdict (ordered b a p d rest) ≡ Done) ↔ ((b ≡ true) × (a ≡ true) × (p ≡ true) × (d ≡ true) × (verdict rest ≡ Done))
  unfolding verdict or_refused
  done_by true true true true = ((λ e. (refl, refl, refl, refl, e)), (λ x. x.4))
  done_by true true true false = ((λ e. clash cc), (λ x. clash cc))
  done_by true true false d = ((λ e. clash cc), (λ x. clash cc))
  done_by true false p d = ((λ e. clash cc), (λ x. clash cc))
  done_by false a p d = ((λ e. clash cc), (λ x. clash cc))

  seven_by : Lacks 7 rest → (place : ℕ) (b a p d : Bool) → (verdict (ordered b a p d rest) ≡ Refused (refusal not_unit place)) ↔ ((place ≡ 0) × ((b ≡ false) ⊎ (a ≡ false)))
  unfolding verdict or_refused refusal number
  seven_by lacks place true true true true = ((λ e. absurd (lacks→not_given lacks e)), (λ x. neither x.1))
  seven_by lacks place true true true false = ((λ e. absurd (omega (arith, number_of e))), (λ x. neither x.1))
  seven_by lacks place true true false d = ((λ e. absurd (omega (arith, number_of e))), (λ x. neither x.1))
  seven_by lacks place true false p d = ((λ e. (sym (place_of e), inr refl)), (λ x. ap (λ n. Refused (record { number = 7; place = n })) (sym x.0)))
  seven_by lacks place false a p d = ((λ e. (sym (place_of e), inl refl)), (λ x. ap (λ n. Refused (record { number = 7; place = n })) (sym x.0)))

  eleven_by : (b a p d : Bool) → (verdict (ordered b a p d rest) ≡ Refused (refusal outside_frame 0))
      ↔ ((b ≡ true) × (a ≡ true) × ((p ≡ false) ⊎ ((p ≡ true) × (d ≡ true) × (verdict rest ≡ Refused (refusal outside_frame 0)))))
  unfolding verdict or_refused refusal number
  eleven_by true true true true = ((λ e. (refl, refl, inr (refl, refl, e))), go)
    where
      go : (true ≡ true) × (true ≡ true) × ((true ≡ false) ⊎ ((true ≡ true) × (true ≡ true) × (verdict rest ≡ Refused (record { number = 11; place = 0 })))) → verdict rest ≡ Refused (record { number = 11; place = 0 })
      go (u, v, inl e) = clash cc
      go (u, v, inr x) = x.2
  eleven_by true true true false = ((λ e. absurd (omega (arith, number_of e))), go)
    where
      go : (true ≡ true) × (true ≡ true) × ((true ≡ false) ⊎ ((true ≡ true) × (false ≡ true) × (verdict rest ≡ Refused (record { number = 11; place = 0 })))) → Refused (record { number = 15; place = 0 }) ≡ Refused (record { number = 11; place = 0 })
      go (u, v, inl e) = clash cc
      go (u, v, inr x) = clash cc
  eleven_by true true false d = ((λ e. (refl, refl, inl refl)), (λ x. refl))
  eleven_by true false p d = ((λ e. absurd (omega (arith, number_of e))), (λ x. clash cc))
  eleven_by false a p d = ((λ e. absurd (omega (arith, number_of e))), (λ x. clash cc))

  fifteen_by : Lacks 15 rest → (b a p d : Bool) → (verdict (ordered b a p d rest) ≡ Refused (refusal asked_out_of_range 0)) ↔ ((b ≡ true) × (a ≡ true) × (p ≡ true) × (d ≡ false))
  unfolding verdict or_refused refusal number
  fifteen_by lacks true true true true = ((λ e. absurd (lacks→not_given lacks e)), (λ x. clash cc))
  fifteen_by lacks true true true false = ((λ e. (refl, refl, refl, refl)), (λ x. refl))
  fifteen_by lacks true true false d = ((λ e. absurd (omega (arith, number_of e))), (λ x. clash cc))
  fifteen_by lacks true false p d = ((λ e. absurd (omega (arith, number_of e))), (λ x. clash cc))
  fifteen_by lacks false a p d = ((λ e. absurd (omega (arith, number_of e))), (λ x. clash cc))

-- ---- of a sighting

-- both pairs are units; or one of them is none
abbrev pub Units : Sighting → Type 0
Units k = (is_unit k.backsight_c k.backsight_s ≡ true) × (is_unit k.angle_c k.angle_s ≡ true)

abbrev pub NoUnit : Sighting → Type 0
NoUnit k = (is_unit k.backsight_c k.backsight_s ≡ false) ⊎ (is_unit k.angle_c k.angle_s ≡ false)

-- the instrument stands in the frame
abbrev pub Stands : Sighting → Type 0
Stands k = in_frame k.x k.y ≡ true

-- "a horizontal distance of 0 to 50,000,000 grains"; a statement has its number
abbrev pub InReach : Sighting → Type 0
InReach k = (pos 0 ≤ℤ k.distance) × (k.distance ≤ℤ pos 50000000)

abbrev pub OutOfReach : Sighting → Type 0
OutOfReach k = (k.distance <ℤ pos 0) ⊎ (pos 50000000 <ℤ k.distance)

reach_true : (d : ℤ) → (is_sight d ≡ true) ↔ ((pos 0 ≤ℤ d) × (d ≤ℤ pos 50000000))
unfolding is_sight
reach_true (pos n) = ((λ e. let h : n ≤ 50000000 = leb-true n longest_sight e in (omega order, omega order)), (λ x. le-leb n longest_sight (omega (order, x))))
reach_true (negsuc n) = ((λ e. clash cc), (λ x. absurd (omega (order, x))))

reach_false : (d : ℤ) → (is_sight d ≡ false) ↔ ((d <ℤ pos 0) ⊎ (pos 50000000 <ℤ d))
unfolding is_sight
reach_false (pos n) = ((λ e. inr (omega (order, leb-false n longest_sight e))), go)
  where
    go : (pos n <ℤ pos 0) ⊎ (pos 50000000 <ℤ pos n) → leb n longest_sight ≡ false
    go (inl h) = absurd (omega (order, h))
    go (inr h) = lt-leb n longest_sight (omega (order, h))
reach_false (negsuc n) = ((λ e. inl (omega order)), (λ x. refl))

-- what a sighting has that none of its own rules refuses
abbrev pub Sights : Sighting → Type 0
Sights k = Units k × Stands k × InReach k

module _ (k : Sighting) (rest : List Rule) where
  pub sight_done : (verdict (sight_rules k ++ rest) ≡ Done) ↔ (Sights k × (verdict rest ≡ Done))
  unfolding sight_rules
  sight_done =
      let r = reach_true k.distance in
      Iff.trans (done_by rest _ _ _ _) ((λ x. (((x.0, x.1), x.2, r.0 x.3), x.4)), (λ x. (x.0.0.0, x.0.0.1, x.0.1, r.1 x.0.2, x.1)))

  -- "7 for either pair"
  pub sight_7 : Lacks 7 rest → (place : ℕ) → (verdict (sight_rules k ++ rest) ≡ Refused (refusal not_unit place)) ↔ ((place ≡ 0) × NoUnit k)
  unfolding sight_rules
  sight_7 lacks place = seven_by rest lacks place _ _ _ _

  -- "11 for K", and what the rules after the sighting's own give
  pub sight_11 : (verdict (sight_rules k ++ rest) ≡ Refused (refusal outside_frame 0)) ↔ (Units k × ((in_frame k.x k.y ≡ false) ⊎ (Stands k × InReach k × (verdict rest ≡ Refused (refusal outside_frame 0)))))
  unfolding sight_rules
  sight_11 =
      let r = reach_true k.distance in
      Iff.trans (eleven_by rest _ _ _ _) (
        (λ x. ((x.0, x.1), ⊎_map (λ e. e) (λ y. (y.0, r.0 y.1, y.2)) x.2)),
        (λ x. (x.0.0, x.0.1, ⊎_map (λ e. e) (λ y. (y.0, r.1 y.1, y.2)) x.1)),
      )

  -- "15 for the distance"
  pub sight_15 : Lacks 15 rest → (verdict (sight_rules k ++ rest) ≡ Refused (refusal asked_out_of_range 0)) ↔ (Units k × Stands k × OutOfReach k)
  unfolding sight_rules
  sight_15 lacks =
      let r = reach_false k.distance in
      Iff.trans (fifteen_by rest lacks _ _ _ _) ((λ x. ((x.0, x.1), x.2, r.0 x.3)), (λ x. (x.0.0, x.0.1, x.1, r.1 x.2)))

module _ (k : Sighting) where
  -- none refuses
  pub sight_holds : (verdict (sight_rules k) ≡ Done) ↔ Sights k
  unfolding verdict
  sight_holds =
      let all = rw (append-nil (sight_rules k)) at (sight_done k []) in
      ((λ e. (all.0 e).0), (λ x. all.1 (x, refl)))

  -- they give no other number
  pub sight_lacks : {n : ℕ} → n ≢ 7 → n ≢ 11 → n ≢ 15 → Lacks n (sight_rules k)
  unfolding sight_rules number
  sight_lacks not-7 not-11 not-15 = other (λ e. not-7 (sym e)) (other (λ e. not-7 (sym e)) (other (λ e. not-11 (sym e)) (other (λ e. not-15 (sym e)) empty)))
