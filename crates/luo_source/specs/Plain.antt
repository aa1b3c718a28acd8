pub mod Types
pub mod Statements
pub mod Values
pub mod Source
