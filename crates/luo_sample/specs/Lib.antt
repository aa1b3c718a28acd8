pub mod Text
pub mod Number
pub mod Laws
pub mod Facts
