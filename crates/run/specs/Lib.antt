-- For the code of this crate only: the widths in which its functions hold what document 01 says.
pub mod Stored
