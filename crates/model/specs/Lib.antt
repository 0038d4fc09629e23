-- The rules of docs/RULES.md as definitions, a file for each chapter or part of one, in the order in which they build on one another. Words in quotation
-- marks are those of the requirements that the rules restate, document 01.
pub mod Rounding
pub mod Refusals
pub mod Kinds
pub mod Records
pub mod Series
pub mod Bound
pub mod Acceptance
pub mod Writer
pub mod Accepted
pub mod Crest
pub mod Stations
pub mod Judged
pub mod Walk
pub mod Answers
pub mod Readings
pub mod Sightings
pub mod Run
pub mod Calls
pub mod Histories
pub mod Program
