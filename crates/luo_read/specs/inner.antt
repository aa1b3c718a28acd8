pub mod Machine
pub mod Readers
pub mod Marks
