-- For the code only: residual and offset as they are returned. What they are stands in `model`.
pub mod Sides
