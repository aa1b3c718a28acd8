pub mod Analyse
pub mod Audit
pub mod List
pub mod Run
pub mod Sample
