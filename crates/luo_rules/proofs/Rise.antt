pub mod Lists
pub mod Names
pub mod Types
pub mod Patterns
pub mod Statements
pub mod Values
pub mod Source
