pub mod Content
pub mod Sent
pub mod Untold
