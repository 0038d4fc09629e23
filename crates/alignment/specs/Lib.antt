-- Where the part lies that the reader hands back, which its promise says. What the part holds, and what the check and the writer do, stands in `model`.
pub mod Lent
