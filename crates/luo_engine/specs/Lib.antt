pub mod Entries
pub mod FirstOver
pub mod Run
pub mod inner
pub mod EntryOrder
