use Rattle.std.proofs.Common.{suc, ◌+◌, ◌*◌, ◌-◌}
use Rattle.luo_model.specs.View.{plain_of}
use Rattle.luo_rank.specs.inner.Lookup.{work, rank_in}
use Rattle.luo_rank.proofs.lookup.+lookup.Given as goal

abbrev pub decreases-structure_at : goal.decreases-structure_at
decreases-structure_at l = suc (work (plain_of l.tables.now.program) (rank_in l.tables.now.ranks) l.node l.n) * 1000

abbrev pub decreases-row_at : goal.decreases-row_at
decreases-row_at l = work (plain_of l.tables.now.program) (rank_in l.tables.now.ranks) l.x l.top * 1000 + (500 - l.f)
