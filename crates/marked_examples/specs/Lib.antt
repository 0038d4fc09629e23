-- The table of the marked examples.
pub mod Examples
