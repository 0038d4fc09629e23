-- For the code only: what a function asks of a point. The frame and the units stand in `model`.
pub mod Frame
