-- docs/RULES.md, chapter 1; document 01, "What the work covers": rounding.
use Rattle.std.specs.Prelude.{ℕ, ◌*◌, ◌^◌, ℤ, pos, ◌+ℤ◌, ◌*ℤ◌}
use Rattle.integers.specs.Floor.{floor_div}

-- "ONE is 2^30."
abbrev pub ONE : ℕ
ONE = 2 ^ 30

-- "near(n, d) is the whole number nearest n/d, a half going up": n / d + 1/2, rounded down, for d above 0.
unfoldable pub near : ℤ → ℕ → ℤ
unfolding floor_div
near n d = floor_div (pos 2 *ℤ n +ℤ pos d) (2 * d)
