-- What is proved of the answer at the station judged.
pub mod Deciding
pub mod Fitting
