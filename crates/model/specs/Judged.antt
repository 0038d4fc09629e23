-- docs/RULES.md, chapter 4; document 01, "Station, offset, inverse, stake-out": the station judged, residual and offset there.
use Rattle.std.specs.Prelude.{ℕ, zero, suc, ◌≤◌, ◌<◌, cond, List, ltb, ℤ, ◌+ℤ◌, ◌-ℤ◌, ◌*ℤ◌}
use Rattle.model.specs.declared.Element.{Element}
use Rattle.model.specs.declared.Point.{Point}
use Rattle.model.specs.Rounding.{ONE, near}
use Rattle.model.specs.Stations.{total, position_at, tangent_at, D}

-- the least of the stations 0 to t that have the least d, for any distance d
unfoldable pub least_of : (ℕ → ℕ) → ℕ → ℕ
least_of d zero = zero
least_of d (suc t) = let before = least_of d t in cond (ltb (d (suc t)) (d before)) (suc t) before

-- b is the least station up to t of least d: what `least_of` is, in words that name no search
pub record Least (d : ℕ → ℕ) (t b : ℕ) : Type 0 where
  pub within : b ≤ t
  pub least : (s : ℕ) → s ≤ t → d b ≤ d s
  pub first : (s : ℕ) → s < b → d b < d s

-- "The station judged is the least s with the least D"
unfoldable pub judged : List Element → Point → ℕ
unfolding least_of D total
judged es p = least_of (D es p) (total es)

-- "With (dx, dy) = P − position: residual = near(Tx·dx + Ty·dy, ONE), offset = near(Tx·dy − Ty·dx, ONE)." With the tangent t and d = (dx, dy).
unfoldable pub residual_of : Point → Point → ℤ
unfolding near
residual_of t d = near (t.x *ℤ d.x +ℤ t.y *ℤ d.y) ONE

unfoldable pub offset_of : Point → Point → ℤ
unfolding near
offset_of t d = near (t.x *ℤ d.y -ℤ t.y *ℤ d.x) ONE

-- "P − position"
unfoldable pub minus : Point → Point → Point
minus p q = record { x = p.x -ℤ q.x; y = p.y -ℤ q.y }

-- residual and offset of P at station s
unfoldable pub residual_at : List Element → Point → ℕ → ℤ
unfolding residual_of tangent_at minus position_at
residual_at es p s = residual_of (tangent_at es s) (minus p (position_at es s))

unfoldable pub offset_at : List Element → Point → ℕ → ℤ
unfolding offset_of tangent_at minus position_at
offset_at es p s = offset_of (tangent_at es s) (minus p (position_at es s))
