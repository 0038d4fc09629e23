-- The run record under any history of calls.
pub mod Events
pub mod Histories
pub mod Lendings
pub mod WrongRuns
-- The crest file: what is written reads back, and what is read is written again.
pub mod WrittenThenRead
pub mod ReadThenWritten
pub mod WrittenBytes
-- The places of refusals, and the refusals of a record.
pub mod Places
pub mod RecordRefusals
-- The three demands.
pub mod Demand1
pub mod Demand2
pub mod Demand3
-- When each number of the table is given.
pub mod RefusalTable
pub mod AfterNumbers
pub mod SightOrders
pub mod ReadingRefusals
pub mod SightingRefusals
pub mod NoPlace
