-- The check.
pub mod CheckOrders
-- The writer.
pub mod WriteOrders
-- The reader.
pub mod PartOrders
