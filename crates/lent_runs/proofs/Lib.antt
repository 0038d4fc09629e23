-- A run in a local that is lent: what lies there, and back.
pub mod Lies
