pub mod Passes
pub mod Neighbours
