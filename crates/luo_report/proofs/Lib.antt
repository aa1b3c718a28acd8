pub mod AverageLemmas
pub mod Sections
pub mod FactLemmas
