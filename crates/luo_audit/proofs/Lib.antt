pub mod Cuts
pub mod AuditLemmas
pub mod WalkLemmas
pub mod FactLemmas
