use Rattle.std.proofs.Common.{◌≡◌, take, sum_by}
use Rattle.luo_num.specs.Mark.{capped}
use Rattle.luo_types.specs.inner.Held.{body_statements_in}
use Rattle.luo_types.proofs.statement_counts.count_procs.Given as goal

abbrev pub invariant-loop-proc : goal.invariant-loop-proc
invariant-loop-proc l = l.total ≡ capped (sum_by (λ p. body_statements_in p.body) (take l.proc-index l.procs))
