pub mod Layout
pub mod CanonicalTypes
pub mod CanonicalStatements
pub mod CanonicalValues
pub mod Canonical
pub mod Same
pub mod Laws
