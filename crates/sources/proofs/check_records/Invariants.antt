-- `sources::check_records` meets its contract. The loop's invariant: the records before `r` refuse nothing.
use Prim.Native.Nat.{ℕ, ◌-◌}
use mathlib.Core.List.{List}
use mathlib.Core.Path.{◌≡◌}
use Rattle.model.specs.Records.{record_of}
use Rattle.model.specs.Refusals.{Rule}
use Rattle.model.specs.Acceptance.{record_rules}
use Rattle.model.proofs.InSteps.{Left}
use Rattle.sources.specs.Sources.{records_in, count_in}
use Rattle.sources.proofs.check_records.Given as goal

-- the rules of record r of record bytes
abbrev pub rules_at : List ℕ → ℕ → List Rule
rules_at bytes r = record_rules (record_of bytes r) r

abbrev pub invariant-loop-r : goal.invariant-loop-r
invariant-loop-r l = (l.n ≡ count_in l.form l.crest l.amendment) × Left (rules_at (records_in l.form l.crest l.amendment)) l.n l.r

abbrev pub decreases-loop-r : goal.decreases-loop-r
decreases-loop-r l = l.n - l.r
