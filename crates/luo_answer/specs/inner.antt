pub mod Audited
pub mod Filled
pub mod Found
pub mod Listed
pub mod Passes
pub mod Requests
