-- `sources::part_in` meets its contract.
use Rattle.sources.proofs.part_in.Goals as goal

pub part_at-requires : goal.part_at-requires
part_at-requires c = rw c.start_in.ensures c.requires.record_size_in_bounds

pub returns : goal.returns
returns c =
    record {
      result_value = rw (← c.start_in.ensures) c.part_at.ensures.result_value;
      place = rw (← c.start_in.ensures) c.part_at.ensures.place;
    }
