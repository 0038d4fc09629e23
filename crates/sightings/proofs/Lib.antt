-- The laws of a sighting, and of its move.
pub mod SightAnswers
pub mod MoveAnswers
pub mod Straight
pub mod BackAgain
