-- For the code only: the walk as the search keeps it, and what its functions ask. The walk itself stands in `model`.
pub mod Search
