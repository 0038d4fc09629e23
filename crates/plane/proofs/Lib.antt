-- The laws of the two tests.
pub mod Frame
pub mod Unit
