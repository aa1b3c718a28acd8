pub mod Average
pub mod Report
pub mod Laws
pub mod Facts
