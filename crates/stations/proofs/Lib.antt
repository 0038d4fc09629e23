-- The laws of the functions over an accepted crest.
pub mod StationTotal
pub mod StationAt
pub mod StationRange
pub mod StationHeld
pub mod StationExtent
pub mod StationAnswers
pub mod InverseAnswers
pub mod CrestSmall
