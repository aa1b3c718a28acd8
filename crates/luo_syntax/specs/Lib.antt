pub mod Viable
pub mod SourceOrError
pub mod inner
