pub mod Relabelling
pub mod Laws
