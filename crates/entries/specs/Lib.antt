-- For the entries of this crate: the record in which a reading on a run is handed back.
pub mod Entries
