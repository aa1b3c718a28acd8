use Rattle.luo_meaning.proofs.laws.entries_are_ordered.Goals as goal
use Rattle.luo_meaning.proofs.EntryOrderLemmas.{sizes-first, counts-first, counts-rank, totals-rank, totals-level}

pub returns-clause-sizes : goal.returns-clause-sizes
returns-clause-sizes c = sizes-first

pub returns-clause-counts : goal.returns-clause-counts
returns-clause-counts c = counts-first

pub returns-clause-constructs : goal.returns-clause-constructs
returns-clause-constructs c = counts-rank

pub returns-clause-ranks : goal.returns-clause-ranks
returns-clause-ranks c = totals-rank

pub returns-clause-levels : goal.returns-clause-levels
returns-clause-levels c = totals-level
