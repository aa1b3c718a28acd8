pub mod Pieces
pub mod Audit
pub mod Laws
pub mod inner
