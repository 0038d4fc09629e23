-- The run record and its bytes.
pub mod RunBytes
