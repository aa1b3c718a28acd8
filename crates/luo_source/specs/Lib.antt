pub mod Plain
pub mod View
pub mod GrammarTypes
pub mod GrammarStatements
pub mod GrammarValues
pub mod Grammar
pub mod Laws
pub mod Ends
