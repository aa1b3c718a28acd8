pub mod inner
pub mod Checks
