pub mod Takes
pub mod Makes
pub mod Laws
pub mod inner
