use Rattle.std.proofs.Common.{◌≡◌, sum_by, take}
use Rattle.luo_num.specs.Mark.{capped}
use Rattle.luo_engine.specs.inner.Grid.{entry_of}
use Rattle.luo_engine.specs.inner.Laid.{laid_number}
use Rattle.luo_engine.proofs.tasks.scopes_sum.Given as goal

abbrev pub invariant-loop-scope : goal.invariant-loop-scope
invariant-loop-scope l = l.sum ≡ capped (sum_by (laid_number l.universe (entry_of l.counts) (entry_of l.totals) l.factors l.links l.n) (take l.scope-index l.scopes))
