pub mod Written
pub mod Nesting
pub mod Reading
pub mod Laws
pub mod Facts
pub mod inner
