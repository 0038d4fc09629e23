-- A question asked of any bytes.
pub mod Asked
