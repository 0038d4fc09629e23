-- For the code only: what a move asks of its numbers. The move stands in `model`.
pub mod StakeRanges
