-- The join of two placements.
use Rattle.std.specs.Prelude.{ℕ, ◌<◌, ◌^◌, List, [], ◌∷◌, ℤ, nat_abs}
use Rattle.model.specs.declared.Point.{Point}
use Rattle.model.specs.Refusals.{Rule, rule, gap, kink}
use Rattle.model.specs.Acceptance.{widest_gap, widest_kink, close_by}
use Rattle.elements.specs.declared.Placement.{Placement}

-- the numbers of a placement are small enough to be subtracted in 64 bits
abbrev pub Small : ℤ → Type 0
Small z = nat_abs z < 2 ^ 31

pub record SmallPoint (p : Point) : Type 0 where
  pub x : Small p.x
  pub y : Small p.y

pub record SmallPlacement (p : Placement) : Type 0 where
  pub x : Small p.x
  pub y : Small p.y
  pub tx : Small p.tx
  pub ty : Small p.ty

-- (X, Y) of a placement, and (Tx, Ty)
abbrev pub position_in : Placement → Point
position_in p = record { x = p.x; y = p.y }

abbrev pub direction_in : Placement → Point
direction_in p = record { x = p.tx; y = p.ty }

-- "8 before 9", "earlier record for 8, 9": the join after record r, from where its element ends and where the next begins
unfoldable pub placed_rules : Placement → Placement → ℕ → List Rule
unfolding close_by
placed_rules last first r =
    rule gap r (close_by widest_gap (position_in last) (position_in first)) ∷ rule kink r (close_by widest_kink (direction_in last) (direction_in first)) ∷ []
