pub mod View
pub mod Small
pub mod inner
pub mod Text
pub mod Facts
