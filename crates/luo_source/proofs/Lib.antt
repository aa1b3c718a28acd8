pub mod Behind
pub mod OneTypes
pub mod OneStatements
pub mod OneValues
pub mod OneProgram
pub mod ViewLemmas
