pub mod Span
pub mod Laws
pub mod inner
