pub mod CodeLemmas
pub mod BodyLemmas
