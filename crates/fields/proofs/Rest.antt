-- What is left of a list from a place on, as a loop that reads it byte by byte meets it: its first byte and the rest after it.
use Prim.Native.Nat.{ℕ, ◌+◌, ◌<◌}
use mathlib.Core.List.{List, ◌∷◌}
use mathlib.Core.Path.{◌≡◌}
use native.Mathlib.Numerals.{add-one}
use lib.ListN.{length, drop}
use lib.Seq.{drop-cons}
use Rattle.model.specs.Records.{byte_at}

pub first_rest : (l : List ℕ) (i : ℕ) → i < length l → drop i l ≡ byte_at l i ∷ drop (i + 1) l
first_rest l i h = rw (add-one i) (drop-cons l i 0 h)
