-- For the code of this crate only: what the program does with the readings that it takes, whichever bytes come, and what it writes where the bytes
-- are known. What it prints stands in `model`.
pub mod Session
pub mod Told
