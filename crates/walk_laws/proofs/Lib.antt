-- What the walk visits and leaves out, and that it finds the station judged.
pub mod Spaced
pub mod Own
pub mod Visits
pub mod Passed
pub mod Walked
-- When a point is answered, and when it is refused with 12, 13 or 14.
pub mod Outcomes
