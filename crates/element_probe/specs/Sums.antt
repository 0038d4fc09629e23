-- The sums that the measurements add up, so that two programs can be compared by them.
use Rattle.std.specs.Prelude.{ℕ, zero, suc, ◌+◌, ◌^◌, cond, List, ◌∷◌, ltb, eqb, length, ℤ, pos, ◌+ℤ◌, ◌*ℤ◌}
use Rattle.integers.specs.Root.{root}
use Rattle.model.specs.declared.Element.{Element}
use Rattle.model.specs.declared.Point.{Point}
use Rattle.model.specs.declared.Outcome.{Outcome}
use Rattle.model.specs.declared.Outcome.TheVariants.{Done, Refused}
use Rattle.model.specs.Records.{record_size}
use Rattle.model.specs.Refusals.{rule₀, verdict, wrong_room}
use Rattle.model.specs.Acceptance.{element_of, record_rules}
use Rattle.model.specs.Series.{position_on}

-- below this a position can be added to a sum in 64 bits
abbrev pub addable : ℕ
addable = 2 ^ 62

-- X + 2Y
unfoldable pub mixed : Point → ℤ
mixed p = p.x +ℤ pos 2 *ℤ p.y

-- the next station, from an element's end again to its start
unfoldable pub next_on : ℕ → ℕ → ℕ
next_on length s = cond (ltb s length) (s + 1) 0

-- n stations of an element from s on
unfoldable pub sum_from : Element → ℕ → ℕ → ℤ
unfolding mixed position_on next_on
sum_from e zero s = pos 0
sum_from e (suc n) s = mixed (position_on e s) +ℤ sum_from e n (next_on e.length s)

unfoldable pub sum_if : Outcome → List ℕ → ℕ → ℤ
unfolding sum_from element_of
sum_if Done bytes n = sum_from (element_of bytes) n 0
sum_if (Refused why) bytes n = pos 0

-- of a record's bytes: n stations from 0 on, and 0 where the bytes are no accepted record
unfoldable pub sum_over : List ℕ → ℕ → ℤ
unfolding sum_if verdict record_rules
sum_over bytes n = sum_if (verdict (rule₀ wrong_room (eqb (length bytes) record_size) ∷ record_rules bytes 0)) bytes n

-- the whole square roots of k numbers from n on
unfoldable pub roots_from : ℕ → ℕ → ℕ
unfolding root
roots_from zero n = 0
roots_from (suc k) n = root n + roots_from k (n + 1)
