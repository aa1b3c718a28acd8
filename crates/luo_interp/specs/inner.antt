pub mod Short
pub mod Marked
pub mod Values
pub mod ValueSizes
