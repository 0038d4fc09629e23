-- The laws that belong to no one function.
pub mod Adding
pub mod OverRecord
pub mod Roots
