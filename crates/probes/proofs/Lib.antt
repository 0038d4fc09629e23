-- The laws that belong to no one function.
pub mod Rooms
pub mod Visited
pub mod Sent
pub mod RecordCases
