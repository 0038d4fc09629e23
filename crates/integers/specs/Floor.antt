-- Division that rounds down.
use Rattle.std.specs.Prelude.{ℕ, ◌/◌, ℤ, pos, negsuc, ◌+ℤ◌, ◌*ℤ◌, ◌≤ℤ◌, ◌<ℤ◌}

-- The greatest whole number that is at most n / d, for d above 0. `negsuc n` is −(n + 1), which is rounded away from zero.
unfoldable pub floor_div : ℤ → ℕ → ℤ
floor_div (pos n) d = pos (n / d)
floor_div (negsuc n) d = negsuc (n / d)

-- q is n / d, rounded down: d · q ≤ n < d · (q + 1).
pub record IsFloor (n : ℤ) (d : ℕ) (q : ℤ) : Type 0 where
  pub low : (pos d *ℤ q) ≤ℤ n
  pub high : n <ℤ (pos d *ℤ (q +ℤ pos 1))
