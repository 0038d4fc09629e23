-- For the code only: what the parts of a sighting ask of its numbers. The sighting stands in `model`.
pub mod SightRanges
