use Rattle.std.proofs.Common.{slice_index, arith}
use Rattle.luo_rank.proofs.PlaneLemmas.{cell_next, cell_empty, cell_none}
use Rattle.luo_rank.proofs.planes.cell.Goals as goal

pub copies-requires-clause-rows : goal.copies-requires-clause-rows
copies-requires-clause-rows c = omega (arith, (c.requires.behind (omega (arith, c.if-d-gt0.true))).long, c.requires.row)

pub copies-requires-clause-wide : goal.copies-requires-clause-wide
copies-requires-clause-wide c =
    let old = c.requires.behind (omega (arith, c.if-d-gt0.true)) in
    λ k l. omega (arith, old.wide k (omega (arith, l, old.long)), c.requires.size)

pub returns-then-d-gt0 : goal.returns-then-d-gt0
returns-then-d-gt0 c = cell_next c.args.kind (slice_index c.args.counts.now) c.args.ways.now c.args.behind.now c.args.d c.args.k c.args.n c.args.last c.copies.result c.if-d-gt0.true c.requires.behind c.requires.ways c.requires.row c.requires.size c.copies.ensures

pub returns-then-k-gt0 : goal.returns-then-k-gt0
returns-then-k-gt0 c = cell_none c.args.kind (slice_index c.args.counts.now) c.args.d c.args.k c.args.n (λ h. omega (arith, h, c.if-d-gt0.false)) (λ e q. omega (arith, e, c.if-k-gt0.true))

pub returns-then-n-gt0 : goal.returns-then-n-gt0
returns-then-n-gt0 c = cell_none c.args.kind (slice_index c.args.counts.now) c.args.d c.args.k c.args.n (λ h. omega (arith, h, c.if-d-gt0.false)) (λ e q. omega (arith, q, c.if-n-gt0.true))

pub returns-else-n-gt0 : goal.returns-else-n-gt0
returns-else-n-gt0 c = cell_empty c.args.kind (slice_index c.args.counts.now) c.args.d c.args.k c.args.n (λ h. omega (arith, h, c.if-d-gt0.false)) (omega (arith, c.if-k-gt0.false)) (omega (arith, c.if-n-gt0.false))
