pub mod Numbers
pub mod Laws
pub mod Tails
pub mod steps
pub mod relabelling
