-- For the code only: a whole number in 64 bits. Which float is whole stands in `model`.
pub mod WholeNumbers
