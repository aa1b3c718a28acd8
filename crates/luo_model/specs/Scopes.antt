pub mod Stands
pub mod Fits
pub mod ValueBodies
pub mod Sites
pub mod Walks
