-- For the code only: the join of two placements, and what its functions ask. The rules of a crest's joins stand in `model`.
pub mod Joins
