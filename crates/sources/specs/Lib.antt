-- For the code only: how a crest's bytes are read, and what its functions ask. What a crest is stands in `model`.
pub mod Sources
