-- The laws that belong to no one function.
pub mod Tests
pub mod Ring
pub mod Order
pub mod Abs
pub mod Identity
pub mod Written
pub mod Ranges
pub mod Machine
pub mod Floor
pub mod Signed
pub mod Held
pub mod Root
pub mod Plane
