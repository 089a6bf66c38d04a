pub mod Failures
pub mod EntryPlaces
pub mod EntrySizes
pub mod MemoryStores
pub mod RisingChanges
