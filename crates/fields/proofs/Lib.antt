-- Bytes, and a number's.
pub mod Bytes
pub mod NumberBytes
pub mod FieldAt
pub mod Listed
-- Parts of them, read and written.
pub mod PartsOf
pub mod Rest
pub mod Zeros
pub mod Puts
