-- The bytes of records and of their elements.
pub mod RecordBytes
