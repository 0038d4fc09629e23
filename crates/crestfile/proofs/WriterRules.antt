-- The writer's rules are those on its records and then the one on its room: so it is done exactly when both refuse nothing.
use Prim.Native.Nat.{ℕ, ◌*◌, ◌≤◌}
use mathlib.Core.List.{List, ◌∷◌}
use mathlib.Core.Logic.{◌↔◌}
use mathlib.Core.Path.{◌≡◌}
use lib.ListN.{length}
use borrow.Author.Tests.{leb-true, le-leb}
use Rattle.model.specs.declared.Outcome.TheVariants.{Done}
use Rattle.model.specs.Refusals.{Rule, rule₀, verdict, record_count}
use Rattle.model.specs.Acceptance.{records_rules}
use Rattle.model.specs.Writer.{blocks_needed, count_fits, writer_rules, writer_outcome}
use Rattle.model.proofs.Verdict.{done→all, all→done}
use Rattle.model.proofs.ForEach.{all_append, append_all, one_holds, holds_one}

-- "The writer gives 17, 4 to 9": its rules but the room
abbrev pub rules_but_room : List ℕ → List Rule
rules_but_room records = rule₀ record_count (count_fits (length records)) ∷ records_rules records

pub writer_done : (records : List ℕ) (room : ℕ) → (writer_outcome records room ≡ Done) ↔ ((verdict (rules_but_room records) ≡ Done) × (512 * blocks_needed records ≤ room))
unfolding writer_outcome writer_rules
writer_done records room = (
  λ e.
      let a = append_all (rules_but_room records) (done→all _ e) in
      (all→done a.0, leb-true _ _ (holds_one a.1)),
  λ h. all→done (all_append (done→all (rules_but_room records) h.0) (one_holds (le-leb _ _ h.1))),
)
