pub mod Average
pub mod Laws
