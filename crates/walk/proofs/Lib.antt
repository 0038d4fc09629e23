-- What is proved of the walk as the search keeps it.
pub mod Seeing
pub mod Passing
pub mod Found
