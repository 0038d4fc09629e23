-- `sources::check_in` meets its contract.
use mathlib.Core.Path.{ap, ◌∙◌}
use native.Mathlib.Omega.{arith}
use Rattle.model.specs.Refusals.{verdict}
use Rattle.model.specs.Acceptance.{record_rules}
use Rattle.sources.proofs.FormRecords.{way_asks, part_is_record}
use Rattle.sources.proofs.check_in.Goals as goal

pub part_in-requires : goal.part_in-requires
part_in-requires c = let told = way_asks _ _ _ _ (c.requires.readable, c.requires.r_bound) in record { r_lt_most_records = told.0; record_size_in_bounds = told.1 }

pub overflow_cast-r : goal.overflow_cast-r
overflow_cast-r c = omega (arith, (way_asks _ _ _ _ (c.requires.readable, c.requires.r_bound)).0)

pub check_record-requires : goal.check_record-requires
check_record-requires c = (part_is_record _ _ _ _ (c.requires.readable, c.requires.r_bound) c.part_in.ensures.result_value).1

pub returns : goal.returns
returns c =
    let s = c in
    c.check_record.ensures.value ∙ ap (λ x. verdict (record_rules x s.args.r)) (part_is_record _ _ _ _ (s.requires.readable, s.requires.r_bound) c.part_in.ensures.result_value).0
