pub mod Found
pub mod Laws
pub mod Facts
pub mod inner
