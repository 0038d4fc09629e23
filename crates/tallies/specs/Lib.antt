-- For the comparing program only: what it counts.
pub mod Compared
