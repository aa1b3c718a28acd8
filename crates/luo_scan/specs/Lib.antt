pub mod Bytes
pub mod Spellings
pub mod Tokens
pub mod Lexemes
pub mod Prefixes
pub mod Faults
pub mod Laws
