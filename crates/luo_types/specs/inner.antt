pub mod StatementsMade
pub mod StatementChecks
pub mod SitesFound
pub mod ProceduresMade
pub mod Typed
pub mod NodeLists
pub mod Held
pub mod Codes
