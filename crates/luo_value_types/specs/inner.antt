pub mod Stands
pub mod Room
pub mod Items
pub mod Callee
pub mod Values
pub mod Lists
