pub mod Marks
pub mod Graph
pub mod Layers
pub mod Peeling
pub mod Longest
pub mod Wholes
pub mod Least
pub mod Ranked
