use Rattle.std.proofs.Common.{arith, ◌+◌, ◌-◌}
use Rattle.luo_unlabelled.proofs.PlaneLemmas.{slim_behind}
use Rattle.luo_unlabelled.proofs.plane.top_count.Goals as goal

pub copies-requires-clause-slim : goal.copies-requires-clause-slim
copies-requires-clause-slim c = slim_behind c.args.cells.now c.args.wide (c.args.k + 1) (c.args.n - 1) c.args.k c.args.n (omega arith) c.requires.size c.requires.slim
