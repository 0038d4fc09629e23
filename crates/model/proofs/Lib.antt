-- What is proved about the definitions.
pub mod Rounding
pub mod KindBytes
pub mod Accepted
pub mod Judged
pub mod Positions
-- Orders of refusals, and the answers that they come to.
pub mod Verdict
pub mod ForEach
pub mod InSteps
pub mod RuleNumbers
pub mod Reasons
pub mod Answers
pub mod AfterCrest
