pub mod Listing
pub mod Range
pub mod Steps
pub mod Laws
pub mod Each
pub mod Binomial
pub mod Places
pub mod Walk
