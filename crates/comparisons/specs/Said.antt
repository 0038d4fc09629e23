-- The fields of a row, by the bytes after its head; reference/rows.py has their layout.
use Rattle.std.specs.Prelude.{ℕ, Bool, not, ◌&&◌, List, eqb, Float, ℤ}
use Rattle.std.specs.Float.{binary64}
use Rattle.std.specs.Float.Ieee.{is_nan, to_bits}
use Rattle.std.specs.Int.{w64}
use Rattle.std.proofs.Common.{to_z, of_z}
use Rattle.model.specs.Program.{u64_at}

abbrev pub i64_at : List ℕ → ℕ → ℤ
i64_at l at = to_z w64 (u64_at l at)

-- whether the eight bytes from `at` on are z, in two's complement
abbrev pub is_at : List ℕ → ℕ → ℤ → Bool
is_at l at z = eqb (of_z w64 z) (u64_at l at)

-- whether they are the bits of x; a nan agrees with none
unfoldable pub float_is_at : List ℕ → ℕ → Float → Bool
float_is_at l at x = not (is_nan x) && eqb (to_bits binary64 x) (u64_at l at)
