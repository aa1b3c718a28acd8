pub mod AverageLemmas
