pub mod Lookup
pub mod Halving
