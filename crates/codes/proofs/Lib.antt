-- The laws that belong to no one function.
pub mod Codes
pub mod Casts
pub mod QuestionCodes
