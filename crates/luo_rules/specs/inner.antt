pub mod Naming
pub mod ValueMade
pub mod ValueLists
pub mod StatementLists
