-- Squared lengths in the plane of whole coordinates.
use Rattle.std.specs.Prelude.{ℕ, ◌+◌, ◌*◌, ℤ, unsigned_abs}

-- x² + y², a natural number
unfoldable pub squared : ℤ → ℤ → ℕ
squared x y = let a = unsigned_abs x in let b = unsigned_abs y in a * a + b * b
