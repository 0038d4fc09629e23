-- The crest file: the rules of its blocks and records, and what a file that they accept is.
pub mod Seams
mod Chunks
pub mod Blocks
pub mod SoundFile
pub mod WriterRules
pub mod Part
-- The laws of its functions.
pub mod Count
pub mod PutBlocks
pub mod Placed
