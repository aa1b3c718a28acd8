pub mod BinomialLemmas
pub mod Divisors
pub mod RowLemmas
pub mod CellLemmas
pub mod SubsetLemmas
