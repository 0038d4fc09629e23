-- The laws that belong to no one function.
pub mod Narrow
pub mod Full
pub mod Noting
pub mod Refused
pub mod Calls
