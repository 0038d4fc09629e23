-- For the comparing program only: what a row says, and what it is compared with.
pub mod Said
pub mod Agreement
pub mod Notes
