-- The sum over a record's bytes, by what its rules say.
use mathlib.Core.List.{List}
use mathlib.Core.Path.{◌≡◌}
use Prim.Native.Nat.{ℕ}
use lib.ListN.{length}
use lib.IntN.{pos}
use borrow.Author.Tests.{eq-eqb, ne_eqb}
use Rattle.model.specs.declared.Refusal.{Refusal}
use Rattle.model.specs.declared.Outcome.TheVariants.{Done, Refused}
use Rattle.model.specs.Records.{record_size}
use Rattle.model.specs.Refusals.{verdict, or_refused}
use Rattle.model.specs.Acceptance.{element_of, record_rules}
use Rattle.element_probe.specs.Sums.{sum_from, sum_if, sum_over}

module _ (bytes : List ℕ) (n : ℕ) where
  pub of_other_length : (length bytes ≡ record_size → ⊥) → sum_over bytes n ≡ pos 0
  unfolding sum_over sum_if verdict or_refused
  of_other_length h = rw (ne_eqb (length bytes) record_size h)

  pub of_refused : length bytes ≡ record_size → {why : Refusal} → verdict (record_rules bytes 0) ≡ Refused why → sum_over bytes n ≡ pos 0
  unfolding sum_over sum_if verdict or_refused
  of_refused h e = rw (eq-eqb (length bytes) record_size h, e)

  pub of_accepted : length bytes ≡ record_size → verdict (record_rules bytes 0) ≡ Done → sum_over bytes n ≡ sum_from (element_of bytes) n 0
  unfolding sum_over sum_if verdict or_refused
  of_accepted h e = rw (eq-eqb (length bytes) record_size h, e)
