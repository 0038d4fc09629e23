-- The inverse's answers in the order of its rules: 15, then 11, then the point.
use mathlib.Core.Bool.{Bool, true, false, ◌&&◌}
use mathlib.Core.List.{List}
use mathlib.Core.Path.{◌≡◌, refl}
use Prim.Native.Nat.{◌≤◌}
use lib.Dec.{leb}
use lib.IntN.{ℤ, nat_abs}
use Rattle.integers.proofs.Order.{clash}
use Rattle.model.specs.declared.Element.{Element}
use Rattle.model.specs.declared.Point.{Point}
use Rattle.model.specs.declared.Inverse.TheVariants.{At, Refused}
use Rattle.model.specs.Refusals.{verdict, or_refused, refusal, number}
use Rattle.model.specs.Acceptance.{frame, in_frame}
use Rattle.model.specs.Stations.{is_station}
use Rattle.model.specs.Answers.{widest_offset, inverse_at, line_rules, answer_if, answer_after, place_question, inverse_on}
use Rattle.plane.proofs.Frame.{framed}

module _ (es : List Element) (s w : ℤ) where
  pub inverse_off_line : (is_station es s && leb (nat_abs w) widest_offset) ≡ false → inverse_on es s w ≡ Refused (record { number = 15; place = 0 })
  unfolding answer_after answer_if place_question line_rules verdict or_refused refusal number
  inverse_off_line h = rw h

  module _ (on : (is_station es s && leb (nat_abs w) widest_offset) ≡ true) where
    pub inverse_outside : let q = inverse_at es (nat_abs s) w in in_frame q.x q.y ≡ false → inverse_on es s w ≡ Refused (record { number = 11; place = 0 })
    unfolding answer_after answer_if place_question line_rules verdict or_refused refusal number
    inverse_outside h = rw (on, h)

    pub inverse_inside : let q = inverse_at es (nat_abs s) w in in_frame q.x q.y ≡ true → inverse_on es s w ≡ At q.x q.y
    unfolding answer_after answer_if place_question line_rules verdict or_refused refusal number
    inverse_inside h = rw (on, h)

-- a point that is answered lies in the frame
pub inverse_small : (es : List Element) (s w : ℤ) {x y : ℤ} → inverse_on es s w ≡ At x y → (nat_abs x ≤ frame) × (nat_abs y ≤ frame)
inverse_small es s w {x} {y} e = let q = inverse_at es (nat_abs s) w in go q refl (is_station es s && leb (nat_abs w) widest_offset) refl (in_frame q.x q.y) refl
  where
    go : (q : Point) → q ≡ inverse_at es (nat_abs s) w → (a : Bool) → (is_station es s && leb (nat_abs w) widest_offset) ≡ a → (b : Bool) → in_frame q.x q.y ≡ b → (nat_abs x ≤ frame) × (nat_abs y ≤ frame)
    go q i false h b k = let r = inverse_off_line es s w h in clash cc
    go q i true h false k = let r = inverse_outside es s w h (rw i at k) in clash cc
    go q i true h true k =
        let r = inverse_inside es s w h (rw i at k) in
        let ex : x ≡ q.x = cc in
        let ey : y ≡ q.y = cc in
        let f = framed q k in
        rw (ex, ey) (f.x, f.y)
