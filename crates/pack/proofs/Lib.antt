pub mod Packing
pub mod SmallEntries
pub mod Given
pub mod Writable
pub mod TablesHold
pub mod WrittenOnce
pub mod Examples
pub mod WrongTables
