-- The laws that belong to no one function: how far a rounded quotient goes, and what quotient of magnitudes it is.
pub mod Sizes
pub mod Quotients
