pub mod Shares
pub mod Obeys
pub mod Tasks
pub mod Laws
