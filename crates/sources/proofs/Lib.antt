-- The elements of record bytes, and the bytes of each form.
pub mod Elements
pub mod FormRecords
-- What a loop over the records knows at each turn.
pub mod RecordsRead
-- A crest whose rules refuse nothing is accepted; a file is a source.
pub mod Sound
