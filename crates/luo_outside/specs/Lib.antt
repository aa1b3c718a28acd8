pub mod Bytes
pub mod Causes
pub mod MemFiles
pub mod MemSink
pub mod Memory
