-- `sources::element_in` meets its contract.
use mathlib.Core.Path.{ap, ◌∙◌}
use Rattle.model.specs.Acceptance.{element_of, element_at}
use Rattle.sources.proofs.FormRecords.{way_asks, part_is_record}
use Rattle.sources.proofs.element_in.Goals as goal

pub part_in-requires : goal.part_in-requires
part_in-requires c = let told = way_asks _ _ _ _ (c.requires.readable, c.requires.r_bound) in record { r_lt_most_records = told.0; record_size_in_bounds = told.1 }

pub element-requires : goal.element-requires
element-requires c = (part_is_record _ _ _ _ (c.requires.readable, c.requires.r_bound) c.part_in.ensures.result_value).1

pub returns : goal.returns
unfolding element_at
returns c = c.element.ensures ∙ ap element_of (part_is_record _ _ _ _ (c.requires.readable, c.requires.r_bound) c.part_in.ensures.result_value).0
