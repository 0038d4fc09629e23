-- The whole square root, rounded down. It goes by digits of base 4, so that it computes at once at any size.
use Rattle.std.specs.Prelude.{ℕ, zero, suc, ◌+◌, ◌*◌, ◌/◌, ◌<◌, ◌≤◌, Bool, true, false, nat_le}

-- r is the whole square root of n: what `root` is, and all that is used of it.
pub record IsRoot (n r : ℕ) : Type 0 where
  pub low : r * r ≤ n
  pub high : n < (r + 1) * (r + 1)

unfoldable pub one_more_if : Bool → ℕ → ℕ
one_more_if true r = suc r
one_more_if false r = r

-- the root of n from the root of n / 4
unfoldable pub next_digit : ℕ → ℕ → ℕ
unfolding one_more_if
next_digit n r = one_more_if (nat_le ((2 * r + 1) * (2 * r + 1)) n) (2 * r)

-- The first argument only bounds the recursion: any number that is at least n serves.
unfoldable pub root_within : ℕ → ℕ → ℕ
unfolding next_digit
root_within zero n = zero
root_within (suc k) zero = zero
root_within (suc k) (suc n) = next_digit (suc n) (root_within k (suc n / 4))

-- The whole square root of n, rounded down.
unfoldable pub root : ℕ → ℕ
unfolding root_within
root n = root_within n n
