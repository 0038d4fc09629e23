-- One block of a crest file: its fields, its sums and its rules, and how it is put into lent room.
pub mod Summed
pub mod OneBlock
pub mod BlockRules
pub mod SingleByte
pub mod PutBlock
