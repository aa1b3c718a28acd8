pub mod Finder
pub mod Kept
