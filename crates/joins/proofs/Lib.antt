-- The laws of the joins.
pub mod JoinNumbers
pub mod JoinElements
