-- The calls of a move, a sighting's numbers, and what readings and sightings on a file come to.
pub mod StakeCalls
pub mod Sighted
pub mod FileAnswers
