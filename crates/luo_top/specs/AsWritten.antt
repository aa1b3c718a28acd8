pub mod Audit
pub mod List
pub mod Outcome
pub mod Overflows
pub mod Report
pub mod Run
pub mod Sample
pub mod Steps
