-- What the proofs of several functions use.
mod Digits
mod Padded
pub mod Texts
mod Words
