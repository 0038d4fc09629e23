-- What is answered for a station that is in range, and for one that is not.
use mathlib.Core.Bool.{Bool, true, false}
use mathlib.Core.List.{List}
use mathlib.Core.Path.{◌≡◌, refl}
use lib.IntN.{ℤ, nat_abs}
use Rattle.integers.proofs.Order.{clash}
use Rattle.model.specs.declared.Element.{Element}
use Rattle.model.specs.declared.Placed.TheVariants.{At, Refused}
use Rattle.model.specs.Refusals.{verdict, or_refused, refusal, number}
use Rattle.model.specs.Stations.{is_station, position_at, tangent_at}
use Rattle.model.specs.Answers.{answer_if, answer_after, station_rules, station_question, placed_on}
use Rattle.model.specs.Accepted.{AllAccepted}
use Rattle.elements.specs.Extent.{Placeable}
use Rattle.stations.proofs.StationRange.{station_within}
use Rattle.stations.proofs.StationExtent.{station_placeable}

module _ (es : List Element) (s : ℤ) where
  pub place_refused : is_station es s ≡ false → placed_on es s ≡ Refused (record { number = 15; place = 0 })
  unfolding answer_after answer_if station_question station_rules verdict or_refused refusal number
  place_refused h = rw h

  pub place_done : is_station es s ≡ true → let p = position_at es (nat_abs s) in let t = tangent_at es (nat_abs s) in placed_on es s ≡ At p.x p.y t.x t.y
  unfolding answer_after answer_if station_question station_rules verdict or_refused
  place_done h = rw h

-- what is answered fits an i32
pub place_small : (es : List Element) (s : ℤ) → AllAccepted es → {x y tx ty : ℤ} → placed_on es s ≡ At x y tx ty → Placeable (record { x = x; y = y; tx = tx; ty = ty })
place_small es s a {x} {y} {tx} {ty} q = go (is_station es s) refl
  where
    go : (b : Bool) → is_station es s ≡ b → Placeable (record { x = x; y = y; tx = tx; ty = ty })
    go false h = let r = place_refused es s h in clash cc
    go true h =
        let r = place_done es s h in
        let b = station_placeable es (nat_abs s) a (station_within es s h).1 in
        let ex : x ≡ (position_at es (nat_abs s)).x = cc in
        let ey : y ≡ (position_at es (nat_abs s)).y = cc in
        let etx : tx ≡ (tangent_at es (nat_abs s)).x = cc in
        let ety : ty ≡ (tangent_at es (nat_abs s)).y = cc in
        rw (ex, ey, etx, ety) b
