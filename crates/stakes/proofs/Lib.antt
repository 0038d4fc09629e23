-- The laws of the stake-out.
pub mod StakeAnswers
