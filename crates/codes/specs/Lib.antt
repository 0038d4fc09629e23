-- For the code of this crate only: the 32 bits in which its functions hand over what document 01 says.
pub mod Codes
