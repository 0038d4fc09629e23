-- The move of a sighting faces the instrument: to a target that is the instrument's own place it is forward by the distance and left by nothing, each to at most one grain, whatever the
-- angle. For the turned pair is not far from a unit: its squares add up to 2^60 but for 2^33 + 6.
use Prim.Native.Nat.{ℕ, ◌+◌, ◌*◌, ◌^◌, ◌≤◌, ◌<◌}
use mathlib.Core.List.{[], ◌∷◌}
use mathlib.Core.Path.{◌≡◌, refl, sym, ap, ap₂, ◌∙◌}
use native.Mathlib.Omega.{arith}
use native.Mathlib.Nat.{mul-le-mul, le_trans, le_of_eq, le_refl}
use lib.IntN.{ℤ, pos, nat_abs, neg_ℤ, ◌+ℤ◌, ◌-ℤ◌, ◌*ℤ◌, +ℤ_comm}
use lib.Signed.{◌<ℤ◌}
use Rattle.integers.proofs.Abs.{nat_abs-+, nat_abs--, nat_abs-*, square→nat_abs-<ℕ}
use Rattle.integers.proofs.Order.{order, sum, difference, parts, 0≤-square}
use Rattle.integers.proofs.Written.{writing, identity}
use borrow.Author.Tests.{leb-true}
use Rattle.model.specs.declared.Point.{Point}
use Rattle.model.specs.declared.Sighting.{Sighting}
use Rattle.model.specs.declared.Outcome.TheVariants.{Done}
use Rattle.model.specs.Rounding.{ONE, near}
use Rattle.model.specs.Refusals.{verdict}
use Rattle.model.specs.Acceptance.{unit_square, unit_slack, is_unit}
use Rattle.model.specs.Judged.{minus}
use Rattle.model.specs.Answers.{forward_of, left_of}
use Rattle.model.specs.Sightings.{turned, turned_of, sighted_of, longest_sight, sight_rules}
use Rattle.model.proofs.Verdict.{done→all}
use Rattle.model.proofs.Reasons.{first_holds, rest_hold}
use Rattle.model.proofs.Rounding.{near_error}
use Rattle.elements.proofs.Extent.{unit_within, unit_within'}
use Rattle.sightings.proofs.SightAnswers.{sightable}
use Rattle.sightings.proofs.Straight.{near_from}

-- a product is at most the product of what its factors are at most
at_most : (x y : ℤ) {m n : ℕ} → nat_abs x ≤ m → nat_abs y ≤ n → nat_abs (x *ℤ y) ≤ m * n
at_most x y h k = le_trans (le_of_eq (nat_abs-* x y)) (mul-le-mul h k)

-- near of a number that is less than 3/2 of ONE
near_small : (x : ℤ) → 2 * nat_abs x < 3 * ONE → nat_abs (near x ONE) ≤ 1
near_small x h =
    let n = near x ONE in
    let back : pos ONE *ℤ n -ℤ x +ℤ x ≡ pos ONE *ℤ n = identity {ρ = n ∷ x ∷ []} (search writing depth 20) (search writing depth 20) tt in
    omega (arith, near_error {d = ONE} (omega arith) x, nat_abs-* (pos ONE) n, nat_abs-+ (pos ONE *ℤ n -ℤ x) x, ap nat_abs back)

-- ---- identities

-- the squares of a turned pair, before it is rounded
squares_turned : (b g a h : ℤ) → (b *ℤ a -ℤ g *ℤ h) *ℤ (b *ℤ a -ℤ g *ℤ h) +ℤ (g *ℤ a +ℤ b *ℤ h) *ℤ (g *ℤ a +ℤ b *ℤ h) ≡ (b *ℤ b +ℤ g *ℤ g) *ℤ (a *ℤ a +ℤ h *ℤ h)
squares_turned b g a h = identity {ρ = b ∷ g ∷ a ∷ h ∷ []} (search writing depth 20 fits 20000) (search writing depth 20 fits 20000) tt

-- of two numbers that are n and m from u
product_from : (u n m : ℤ) → (u +ℤ n) *ℤ (u +ℤ m) ≡ u *ℤ u +ℤ (n *ℤ m +ℤ u *ℤ n +ℤ u *ℤ m)
product_from u n m = identity {ρ = u ∷ n ∷ m ∷ []} (search writing depth 20 fits 20000) (search writing depth 20 fits 20000) tt

-- a number from one that is p from it
square_from : (x p : ℤ) → (x +ℤ p) *ℤ (x +ℤ p) ≡ x *ℤ x +ℤ (x *ℤ (pos 2 *ℤ p) +ℤ p *ℤ p)
square_from x p = identity {ρ = x ∷ p ∷ []} (search writing depth 20 fits 20000) (search writing depth 20 fits 20000) tt

plus_rest : (x y : ℤ) → x +ℤ (y -ℤ x) ≡ y
plus_rest x y = identity {ρ = x ∷ y ∷ []} (search writing depth 20) (search writing depth 20) tt

-- a square of a multiple of ONE
times_square : (x : ℤ) → (pos ONE *ℤ x) *ℤ (pos ONE *ℤ x) ≡ pos (ONE * ONE) *ℤ (x *ℤ x)
times_square x = identity {ρ = x ∷ []} (search writing depth 20) (search writing depth 20) tt

gathered : (p q r t u w : ℤ) {A B : ℤ} → A ≡ p +ℤ r → B ≡ q +ℤ t → p +ℤ q ≡ u +ℤ w → A +ℤ B -ℤ u ≡ w +ℤ (r +ℤ t)
gathered p q r t u w h_a h_b h =
    let one : p +ℤ r +ℤ (q +ℤ t) -ℤ u ≡ p +ℤ q +ℤ (r +ℤ t) -ℤ u = identity {ρ = p ∷ q ∷ r ∷ t ∷ u ∷ []} (search writing depth 20 fits 20000) (search writing depth 20 fits 20000) tt in
    let two : u +ℤ w +ℤ (r +ℤ t) -ℤ u ≡ w +ℤ (r +ℤ t) = identity {ρ = r ∷ t ∷ u ∷ w ∷ []} (search writing depth 20 fits 20000) (search writing depth 20 fits 20000) tt in
    ap₂ (λ (x y : ℤ). x +ℤ y -ℤ u) h_a h_b ∙ one ∙ ap (λ (z : ℤ). z +ℤ (r +ℤ t) -ℤ u) h ∙ two

-- ---- the turned pair

module _ (b g a h : ℤ) (first : nat_abs (b *ℤ b +ℤ g *ℤ g -ℤ pos unit_square) ≤ unit_slack) (second : nat_abs (a *ℤ a +ℤ h *ℤ h -ℤ pos unit_square) ≤ unit_slack) where
  abbrev P : ℤ
  P = b *ℤ a -ℤ g *ℤ h

  abbrev Q : ℤ
  Q = g *ℤ a +ℤ b *ℤ h

  abbrev e : ℤ
  e = near P ONE

  abbrev f : ℤ
  f = near Q ONE

  -- the errors of the pairs, and of the roundings
  abbrev n : ℤ
  n = b *ℤ b +ℤ g *ℤ g -ℤ pos unit_square

  abbrev m : ℤ
  m = a *ℤ a +ℤ h *ℤ h -ℤ pos unit_square

  abbrev p : ℤ
  p = pos ONE *ℤ e -ℤ P

  abbrev q : ℤ
  q = pos ONE *ℤ f -ℤ Q

  p_small : 2 * nat_abs p ≤ ONE
  p_small = near_error {d = ONE} (omega arith) P

  q_small : 2 * nat_abs q ≤ ONE
  q_small = near_error {d = ONE} (omega arith) Q

  P_small : nat_abs P ≤ 2 * (ONE * ONE)
  P_small = omega (arith, nat_abs-- (b *ℤ a) (g *ℤ h), at_most b a (unit_within b g first) (unit_within a h second), at_most g h (unit_within' b g first) (unit_within' a h second))

  Q_small : nat_abs Q ≤ 2 * (ONE * ONE)
  Q_small = omega (arith, nat_abs-+ (g *ℤ a) (b *ℤ h), at_most g a (unit_within' b g first) (unit_within a h second), at_most b h (unit_within b g first) (unit_within' a h second))

  -- how far its squares are from 2^60
  abbrev over : ℤ
  over = e *ℤ e +ℤ f *ℤ f -ℤ pos unit_square

  abbrev U : ℤ
  U = pos unit_square

  of_pairs : P *ℤ P +ℤ Q *ℤ Q ≡ U *ℤ U +ℤ (n *ℤ m +ℤ U *ℤ n +ℤ U *ℤ m)
  of_pairs = squares_turned b g a h ∙ ap₂ ◌*ℤ◌ (sym (plus_rest U (b *ℤ b +ℤ g *ℤ g))) (sym (plus_rest U (a *ℤ a +ℤ h *ℤ h))) ∙ product_from U n m

  of_rounded : (x X r : ℤ) → r ≡ pos ONE *ℤ x -ℤ X → pos (ONE * ONE) *ℤ (x *ℤ x) ≡ X *ℤ X +ℤ (X *ℤ (pos 2 *ℤ r) +ℤ r *ℤ r)
  of_rounded x X r is = sym (times_square x) ∙ ap (λ (z : ℤ). z *ℤ z) (sym (plus_rest X (pos ONE *ℤ x)) ∙ ap (λ (z : ℤ). X +ℤ z) (sym is)) ∙ square_from X r

  is_over : pos (ONE * ONE) *ℤ over ≡ n *ℤ m +ℤ U *ℤ n +ℤ U *ℤ m +ℤ (P *ℤ (pos 2 *ℤ p) +ℤ p *ℤ p +ℤ (Q *ℤ (pos 2 *ℤ q) +ℤ q *ℤ q))
  is_over =
      let apart : pos (ONE * ONE) *ℤ over ≡ pos (ONE * ONE) *ℤ (e *ℤ e) +ℤ pos (ONE * ONE) *ℤ (f *ℤ f) -ℤ U *ℤ U = identity {ρ = e ∷ f ∷ []} (search writing depth 20 fits 20000) (search writing depth 20 fits 20000) tt in
      apart ∙ gathered (P *ℤ P) (Q *ℤ Q) (P *ℤ (pos 2 *ℤ p) +ℤ p *ℤ p) (Q *ℤ (pos 2 *ℤ q) +ℤ q *ℤ q) (U *ℤ U) (n *ℤ m +ℤ U *ℤ n +ℤ U *ℤ m) (of_rounded e P p refl) (of_rounded f Q q refl) of_pairs

  -- 2 · p is at most ONE, so its products are
  twice_p : nat_abs (pos 2 *ℤ p) ≤ ONE
  twice_p = le_trans (le_of_eq (nat_abs-* (pos 2) p)) p_small

  twice_q : nat_abs (pos 2 *ℤ q) ≤ ONE
  twice_q = le_trans (le_of_eq (nat_abs-* (pos 2) q)) q_small

  over_small : nat_abs over ≤ 2 ^ 33 + 6
  over_small =
      let whole : ONE * ONE * nat_abs over ≡ nat_abs (n *ℤ m +ℤ U *ℤ n +ℤ U *ℤ m +ℤ (P *ℤ (pos 2 *ℤ p) +ℤ p *ℤ p +ℤ (Q *ℤ (pos 2 *ℤ q) +ℤ q *ℤ q))) = sym (nat_abs-* (pos (ONE * ONE)) over) ∙ ap nat_abs is_over in
      omega (
        arith,
        nat_abs-+ (n *ℤ m +ℤ U *ℤ n +ℤ U *ℤ m) (P *ℤ (pos 2 *ℤ p) +ℤ p *ℤ p +ℤ (Q *ℤ (pos 2 *ℤ q) +ℤ q *ℤ q)),
        nat_abs-+ (n *ℤ m +ℤ U *ℤ n) (U *ℤ m),
        nat_abs-+ (n *ℤ m) (U *ℤ n),
        nat_abs-+ (P *ℤ (pos 2 *ℤ p) +ℤ p *ℤ p) (Q *ℤ (pos 2 *ℤ q) +ℤ q *ℤ q),
        nat_abs-+ (P *ℤ (pos 2 *ℤ p)) (p *ℤ p),
        nat_abs-+ (Q *ℤ (pos 2 *ℤ q)) (q *ℤ q),
        at_most n m first second,
        at_most U n {m = unit_square} (omega arith) first,
        at_most U m {m = unit_square} (omega arith) second,
        at_most P (pos 2 *ℤ p) P_small twice_p,
        at_most Q (pos 2 *ℤ q) Q_small twice_q,
        at_most p p {m = ONE} {n = ONE} (omega (arith, p_small)) (omega (arith, p_small)),
        at_most q q {m = ONE} {n = ONE} (omega (arith, q_small)) (omega (arith, q_small)),
      )

  -- so its components are at most ONE + 4
  component : (x y : ℤ) → nat_abs (x *ℤ x +ℤ y *ℤ y -ℤ U) ≤ 2 ^ 33 + 6 → nat_abs x ≤ ONE + 4
  component x y h =
      let z = x *ℤ x +ℤ y *ℤ y in
      let l : (x *ℤ x) <ℤ pos ((ONE + 5) * (ONE + 5)) = omega (order, h, 0≤-square y, sum (x *ℤ x) (y *ℤ y), difference z U, parts (z -ℤ U)) in
      omega (arith, square→nat_abs-<ℕ x (ONE + 5) l)

  e_small : nat_abs e ≤ ONE + 4
  e_small = component e f over_small

  f_small : nat_abs f ≤ ONE + 4
  f_small = component f e (le_trans (le_of_eq (ap (λ (z : ℤ). nat_abs (z -ℤ U)) (+ℤ_comm (f *ℤ f) (e *ℤ e)))) over_small)

-- ---- there and back

module _ (e f d : ℤ) (close : nat_abs (e *ℤ e +ℤ f *ℤ f -ℤ pos unit_square) ≤ 2 ^ 33 + 6) (he : nat_abs e ≤ ONE + 4) (hf : nat_abs f ≤ ONE + 4) (hd : nat_abs d ≤ longest_sight) where
  abbrev u : ℤ
  u = near (d *ℤ e) ONE

  abbrev v : ℤ
  v = near (d *ℤ f) ONE

  abbrev r : ℤ
  r = pos ONE *ℤ u -ℤ d *ℤ e

  abbrev t : ℤ
  t = pos ONE *ℤ v -ℤ d *ℤ f

  r_small : 2 * nat_abs r ≤ ONE
  r_small = near_error {d = ONE} (omega arith) (d *ℤ e)

  t_small : 2 * nat_abs t ≤ ONE
  t_small = near_error {d = ONE} (omega arith) (d *ℤ f)

  -- a component times an error, twice
  twice : (x y : ℤ) → nat_abs x ≤ ONE + 4 → 2 * nat_abs y ≤ ONE → 2 * nat_abs (x *ℤ y) ≤ (ONE + 4) * ONE
  twice x y hx hy =
      let l : nat_abs (x *ℤ y) ≤ (ONE + 4) * nat_abs y = at_most x y hx (le_refl (nat_abs y)) in
      omega arith

  abbrev forward : ℤ
  forward = e *ℤ u +ℤ f *ℤ v -ℤ pos ONE *ℤ d

  forward_small : 2 * nat_abs forward < 3 * ONE
  forward_small =
      let is : pos ONE *ℤ forward ≡ e *ℤ r +ℤ f *ℤ t +ℤ d *ℤ (e *ℤ e +ℤ f *ℤ f -ℤ pos unit_square) = identity {ρ = e ∷ f ∷ d ∷ u ∷ v ∷ []} (search writing depth 20 fits 50000) (search writing depth 20 fits 50000) tt in
      let whole : ONE * nat_abs forward ≡ nat_abs (e *ℤ r +ℤ f *ℤ t +ℤ d *ℤ (e *ℤ e +ℤ f *ℤ f -ℤ pos unit_square)) = sym (nat_abs-* (pos ONE) forward) ∙ ap nat_abs is in
      omega (
        arith,
        nat_abs-+ (e *ℤ r +ℤ f *ℤ t) (d *ℤ (e *ℤ e +ℤ f *ℤ f -ℤ pos unit_square)),
        nat_abs-+ (e *ℤ r) (f *ℤ t),
        twice e r he r_small,
        twice f t hf t_small,
        at_most d (e *ℤ e +ℤ f *ℤ f -ℤ pos unit_square) hd close,
      )

  abbrev left : ℤ
  left = e *ℤ v -ℤ f *ℤ u

  left_small : 2 * nat_abs left < 3 * ONE
  left_small =
      let is : pos ONE *ℤ left ≡ e *ℤ t -ℤ f *ℤ r = identity {ρ = e ∷ f ∷ d ∷ u ∷ v ∷ []} (search writing depth 20 fits 50000) (search writing depth 20 fits 50000) tt in
      let whole : ONE * nat_abs left ≡ nat_abs (e *ℤ t -ℤ f *ℤ r) = sym (nat_abs-* (pos ONE) left) ∙ ap nat_abs is in
      omega (arith, nat_abs-- (e *ℤ t) (f *ℤ r), twice e t he t_small, twice f r hf r_small)

-- ---- of a sighting that nothing of its own refuses

abbrev pub place_of : Sighting → Point
place_of k = record { x = k.x; y = k.y }

module _ (k : Sighting) (holds : verdict (sight_rules k) ≡ Done) where
  abbrev tx : ℤ
  tx = (turned_of k).x

  abbrev ty : ℤ
  ty = (turned_of k).y

  abbrev NearUnits : Type 0
  NearUnits = (nat_abs (k.backsight_c *ℤ k.backsight_c +ℤ k.backsight_s *ℤ k.backsight_s -ℤ pos unit_square) ≤ unit_slack) × (nat_abs (k.angle_c *ℤ k.angle_c +ℤ k.angle_s *ℤ k.angle_s -ℤ pos unit_square) ≤ unit_slack)

  units : NearUnits
  unfolding sight_rules is_unit
  units = let a = done→all _ holds in (leb-true _ _ (first_holds a), leb-true _ _ (first_holds (rest_hold a)))

  reach : nat_abs k.distance ≤ longest_sight
  reach = (sightable k holds).length

  abbrev x : ℤ
  x = near (k.distance *ℤ tx) ONE

  abbrev y : ℤ
  y = near (k.distance *ℤ ty) ONE

  close_turned : nat_abs (tx *ℤ tx +ℤ ty *ℤ ty -ℤ pos unit_square) ≤ 2 ^ 33 + 6
  unfolding turned_of turned
  close_turned = over_small k.backsight_c k.backsight_s k.angle_c k.angle_s units.0 units.1

  tx_small : nat_abs tx ≤ ONE + 4
  unfolding turned_of turned
  tx_small = e_small k.backsight_c k.backsight_s k.angle_c k.angle_s units.0 units.1

  ty_small : nat_abs ty ≤ ONE + 4
  unfolding turned_of turned
  ty_small = f_small k.backsight_c k.backsight_s k.angle_c k.angle_s units.0 units.1

  -- "faces from prism to instrument": the move to the instrument's place goes forward by the distance, to at most a grain
  pub back_forward : nat_abs (forward_of (sighted_of k) (place_of k) (neg_ℤ tx) (neg_ℤ ty) -ℤ k.distance) ≤ 1
  unfolding forward_of minus sighted_of
  back_forward =
      let moved = neg_ℤ tx *ℤ (k.x -ℤ (k.x +ℤ x)) +ℤ neg_ℤ ty *ℤ (k.y -ℤ (k.y +ℤ y)) in
      let first : near moved ONE -ℤ k.distance ≡ neg_ℤ k.distance +ℤ near moved ONE = identity {ρ = near moved ONE ∷ k.distance ∷ []} (search writing depth 20) (search writing depth 20) tt in
      let same : pos ONE *ℤ neg_ℤ k.distance +ℤ moved ≡ tx *ℤ x +ℤ ty *ℤ y -ℤ pos ONE *ℤ k.distance =
      identity {ρ = tx ∷ ty ∷ k.x ∷ k.y ∷ x ∷ y ∷ k.distance ∷ []} (search writing depth 20 fits 50000) (search writing depth 20 fits 50000) tt in
      le_trans
      (le_of_eq (ap nat_abs (first ∙ near_from {d = ONE} (omega arith) moved (neg_ℤ k.distance) ∙ ap (λ (z : ℤ). near z ONE) same)))
      (near_small (tx *ℤ x +ℤ ty *ℤ y -ℤ pos ONE *ℤ k.distance) (forward_small tx ty k.distance close_turned tx_small ty_small reach))

  -- and left by nothing, to at most a grain
  pub back_left : nat_abs (left_of (sighted_of k) (place_of k) (neg_ℤ tx) (neg_ℤ ty)) ≤ 1
  unfolding left_of minus sighted_of
  back_left =
      let moved = neg_ℤ (neg_ℤ ty) *ℤ (k.x -ℤ (k.x +ℤ x)) +ℤ neg_ℤ tx *ℤ (k.y -ℤ (k.y +ℤ y)) in
      let same : moved ≡ tx *ℤ y -ℤ ty *ℤ x = identity {ρ = tx ∷ ty ∷ k.x ∷ k.y ∷ x ∷ y ∷ []} (search writing depth 20 fits 50000) (search writing depth 20 fits 50000) tt in
      le_trans (le_of_eq (ap (λ (z : ℤ). nat_abs (near z ONE)) same)) (near_small (tx *ℤ y -ℤ ty *ℤ x) (left_small tx ty k.distance close_turned tx_small ty_small reach))
