-- `sources::record_in` meets its contract.
use Rattle.sources.proofs.FormRecords.{way_asks, part_is_record}
use Rattle.sources.proofs.record_in.Goals as goal

pub part_in-requires : goal.part_in-requires
part_in-requires c = let told = way_asks _ _ _ _ (c.requires.readable, c.requires.r_bound) in record { r_lt_most_records = told.0; record_size_in_bounds = told.1 }

pub returns : goal.returns
returns c =
    let p = part_is_record _ _ _ _ (c.requires.readable, c.requires.r_bound) c.part_in.ensures.result_value in record { result_value = p.0; size = p.1; place = c.part_in.ensures.place }
