-- A sighting goes where it says: an angle of (ONE, 0) leaves the backsight's direction as it is, one of (0, ONE) turns it a quarter to the left; along an exact backsight, which only the
-- axes are, the point lies the distance ahead, to the grain; and a coordinate is the same whether what is gone is rounded or the whole of it.
use Prim.Native.Nat.{ℕ, ◌<◌}
use mathlib.Core.List.{[], ◌∷◌}
use mathlib.Core.Path.{◌≡◌, refl, ap, ap₂, ◌∙◌}
use native.Mathlib.Omega.{arith}
use lib.IntN.{ℤ, pos, neg_ℤ, ◌+ℤ◌, ◌-ℤ◌, ◌*ℤ◌}
use Rattle.integers.proofs.Written.{writing, identity}
use Rattle.integers.proofs.Order.{order, sum}
use Rattle.model.specs.declared.Point.{Point}
use Rattle.model.specs.declared.Sighting.{Sighting}
use Rattle.model.specs.Rounding.{ONE, near}
use Rattle.model.specs.Sightings.{backsight_of, angle_of, turned, turned_of, sighted_of}
use Rattle.model.specs.Calls.{sighting_of}
use Rattle.model.proofs.Rounding.{near_is, near_unique, near_multiple}

-- ---- no angle

-- the unit (ONE, 0)
abbrev pub ahead : Point
ahead = record { x = pos ONE; y = pos 0 }

pub turned_straight : (d : Point) → turned d ahead ≡ d
unfolding turned
turned_straight d =
    let x : d.x *ℤ pos ONE -ℤ d.y *ℤ pos 0 ≡ pos ONE *ℤ d.x = identity {ρ = d.x ∷ d.y ∷ []} (search writing depth 20) (search writing depth 20) tt in
    let y : d.y *ℤ pos ONE +ℤ d.x *ℤ pos 0 ≡ pos ONE *ℤ d.y = identity {ρ = d.x ∷ d.y ∷ []} (search writing depth 20) (search writing depth 20) tt in
    ap₂ (λ (a b : ℤ). record { x = near a ONE; y = near b ONE }) x y
    ∙ ap₂ (λ (a b : ℤ). record { x = a; y = b }) (near_multiple {d = ONE} (omega arith) d.x) (near_multiple {d = ONE} (omega arith) d.y)

module _ (k : Sighting) (no_angle : angle_of k ≡ ahead) where
  pub straight_direction : turned_of k ≡ backsight_of k
  unfolding turned_of
  straight_direction = ap (turned (backsight_of k)) no_angle ∙ turned_straight (backsight_of k)

  -- straight along the backsight
  pub straight_point : sighted_of k ≡ record { x = k.x +ℤ near (k.distance *ℤ k.backsight_c) ONE; y = k.y +ℤ near (k.distance *ℤ k.backsight_s) ONE }
  unfolding sighted_of
  straight_point = ap (λ (t : Point). record { x = k.x +ℤ near (k.distance *ℤ t.x) ONE; y = k.y +ℤ near (k.distance *ℤ t.y) ONE }) straight_direction

-- ---- a quarter to the left

pub turned_left : (d : Point) → turned d (record { x = pos 0; y = pos ONE }) ≡ record { x = neg_ℤ d.y; y = d.x }
unfolding turned
turned_left d =
    let x : d.x *ℤ pos 0 -ℤ d.y *ℤ pos ONE ≡ pos ONE *ℤ neg_ℤ d.y = identity {ρ = d.x ∷ d.y ∷ []} (search writing depth 20) (search writing depth 20) tt in
    let y : d.y *ℤ pos 0 +ℤ d.x *ℤ pos ONE ≡ pos ONE *ℤ d.x = identity {ρ = d.x ∷ d.y ∷ []} (search writing depth 20) (search writing depth 20) tt in
    ap₂ (λ (a b : ℤ). record { x = near a ONE; y = near b ONE }) x y
    ∙ ap₂ (λ (a b : ℤ). record { x = a; y = b }) (near_multiple {d = ONE} (omega arith) (neg_ℤ d.y)) (near_multiple {d = ONE} (omega arith) d.x)

-- ---- an exact backsight

-- the distance times a component that is ONE, −ONE or 0, rounded
times_one : (d : ℤ) → near (d *ℤ pos ONE) ONE ≡ d
times_one d = ap (λ (z : ℤ). near z ONE) (identity {ρ = d ∷ []} {b = pos ONE *ℤ d} (search writing depth 20) (search writing depth 20) tt) ∙ near_multiple {d = ONE} (omega arith) d

times_minus_one : (d : ℤ) → near (d *ℤ neg_ℤ (pos ONE)) ONE ≡ neg_ℤ d
times_minus_one d = ap (λ (z : ℤ). near z ONE) (identity {ρ = d ∷ []} {b = pos ONE *ℤ neg_ℤ d} (search writing depth 20) (search writing depth 20) tt) ∙ near_multiple {d = ONE} (omega arith) (neg_ℤ d)

times_nothing : (x d : ℤ) → x +ℤ near (d *ℤ pos 0) ONE ≡ x
times_nothing x d =
    ap (λ (z : ℤ). x +ℤ near z ONE) (identity {ρ = d ∷ []} {b = pos ONE *ℤ pos 0} (search writing depth 20) (search writing depth 20) tt)
    ∙ ap (λ (z : ℤ). x +ℤ z) (near_multiple {d = ONE} (omega arith) (pos 0))
    ∙ identity {ρ = x ∷ []} (search writing depth 20) (search writing depth 20) tt

-- c² + s² is 2^60 of the four directions of the axes only; along each the point lies the distance ahead
module _ (x y d : ℤ) where
  pub along_x : sighted_of (sighting_of x y (pos ONE) (pos 0) (pos ONE) (pos 0) d) ≡ record { x = x +ℤ d; y = y }
  along_x = straight_point _ refl ∙ ap₂ (λ (a b : ℤ). record { x = x +ℤ a; y = b }) (times_one d) (times_nothing y d)

  pub along_y : sighted_of (sighting_of x y (pos 0) (pos ONE) (pos ONE) (pos 0) d) ≡ record { x = x; y = y +ℤ d }
  along_y = straight_point _ refl ∙ ap₂ (λ (a b : ℤ). record { x = a; y = y +ℤ b }) (times_nothing x d) (times_one d)

  pub against_x : sighted_of (sighting_of x y (neg_ℤ (pos ONE)) (pos 0) (pos ONE) (pos 0) d) ≡ record { x = x +ℤ neg_ℤ d; y = y }
  against_x = straight_point _ refl ∙ ap₂ (λ (a b : ℤ). record { x = x +ℤ a; y = b }) (times_minus_one d) (times_nothing y d)

  pub against_y : sighted_of (sighting_of x y (pos 0) (neg_ℤ (pos ONE)) (pos ONE) (pos 0) d) ≡ record { x = x; y = y +ℤ neg_ℤ d }
  against_y = straight_point _ refl ∙ ap₂ (λ (a b : ℤ). record { x = a; y = y +ℤ b }) (times_nothing x d) (times_minus_one d)

-- ---- rounding

-- near of a sum with a multiple of d
pub near_from : {d : ℕ} → 0 < d → (n k : ℤ) → k +ℤ near n d ≡ near (pos d *ℤ k +ℤ n) d
near_from {d} h n k =
    let q = near n d in
    let i = near_is h n in
    let left : pos 2 *ℤ (pos d *ℤ (k +ℤ q)) ≡ pos 2 *ℤ (pos d *ℤ k) +ℤ pos 2 *ℤ (pos d *ℤ q) = identity {ρ = pos d ∷ k ∷ q ∷ []} (search writing depth 20) (search writing depth 20) tt in
    let right : pos 2 *ℤ (pos d *ℤ k +ℤ n) ≡ pos 2 *ℤ (pos d *ℤ k) +ℤ pos 2 *ℤ n = identity {ρ = pos d ∷ k ∷ n ∷ []} (search writing depth 20) (search writing depth 20) tt in
    let a = pos 2 *ℤ (pos d *ℤ k) in
    let b = pos 2 *ℤ (pos d *ℤ q) in
    let c = pos 2 *ℤ n in
    near_unique h
    (record {
      low = omega (order, left, right, i.low, sum a b, sum a c, sum c (pos d), sum (pos 2 *ℤ (pos d *ℤ k +ℤ n)) (pos d));
      high = omega (order, left, right, i.high, sum a b, sum a c, sum b (pos d), sum (pos 2 *ℤ (pos d *ℤ (k +ℤ q))) (pos d));
    })

-- "round each coordinate": of what is gone, or of the whole, it is the same
pub rounded_as_one : (k : Sighting) → let t = turned_of k in
    sighted_of k ≡ record { x = near (pos ONE *ℤ k.x +ℤ k.distance *ℤ t.x) ONE; y = near (pos ONE *ℤ k.y +ℤ k.distance *ℤ t.y) ONE }
unfolding sighted_of
rounded_as_one k =
    let t = turned_of k in
    ap₂ (λ (a b : ℤ). record { x = a; y = b }) (near_from {d = ONE} (omega arith) (k.distance *ℤ t.x) k.x) (near_from {d = ONE} (omega arith) (k.distance *ℤ t.y) k.y)
