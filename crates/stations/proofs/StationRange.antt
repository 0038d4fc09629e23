-- What a test of a station says: a negative number is none, and any other is one up to T. A station is cast to a u64 as it is.
use Prim.Native.Nat.{◌≤◌, ◌<◌, ◌^◌}
use mathlib.Core.Bool.{true, false}
use mathlib.Core.List.{List}
use mathlib.Core.Path.{◌≡◌, sym, subst}
use native.Mathlib.Omega.{arith}
use lib.Dec.{T, leb, leb→le}
use lib.IntN.{ℤ, pos, negsuc, nat_abs}
use lib.Signed.{non_neg, lt_z}
use mir.Facts.{to_z-of_z, and_yes}
use mir.Syntax.{w64}
use mir.Val.{Fits, SFits, to_z, of_z}
use Rattle.integers.proofs.Tests.{below_0, not_below_0}
use Rattle.model.specs.declared.Element.{Element}
use Rattle.model.specs.Stations.{is_station, total}

module _ (es : List Element) (s : ℤ) where
  pub below_start : lt_z s (pos 0) ≡ true → is_station es s ≡ false
  unfolding is_station
  below_start h = rw (below_0 s h)

  pub from_start : lt_z s (pos 0) ≡ false → is_station es s ≡ leb (nat_abs s) (total es)
  unfolding is_station
  from_start h = rw (not_below_0 s h)

  pub station_within : is_station es s ≡ true → T (non_neg s) × (nat_abs s ≤ total es)
  unfolding is_station
  station_within h =
      let g = and_yes (non_neg s) (leb (nat_abs s) (total es)) (subst T (sym h) tt) in
      (g.0, leb→le (nat_abs s) (total es) g.1)

cast_fits : (z : ℤ) → SFits w64 z → T (non_neg z) → T (non_neg z) × Fits w64 (nat_abs z)
cast_fits (pos n) f t = (tt, record { fits = let k : n < 2 ^ 63 = f.sfits in omega arith })
cast_fits (negsuc n) f t = absurd t

-- a number that is not negative, cast from an i64
pub held_casts : {z : ℤ} → SFits w64 z → T (non_neg z) → T (non_neg (to_z w64 (of_z w64 z))) × Fits w64 (nat_abs (to_z w64 (of_z w64 z)))
held_casts {z} f t = rw (to_z-of_z f) (cast_fits z f t)
