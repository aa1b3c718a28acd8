use Rattle.std.proofs.Common.{arith}
use Rattle.luo_unlabelled.proofs.PlaneLemmas.{most_fit, most_past}
use Rattle.luo_unlabelled.proofs.plane.most_copies.Goals as goal

pub returns-else-d-eq1-clause-fits : goal.returns-else-d-eq1-clause-fits
returns-else-d-eq1-clause-fits c = most_fit c.args.d c.args.k c.args.m c.min.result (omega (arith, c.if-d-eq1.false, c.requires.some)) c.requires.room c.min.ensures

pub returns-else-d-eq1-clause-most : goal.returns-else-d-eq1-clause-most
returns-else-d-eq1-clause-most c = most_past c.args.d c.args.k c.args.m c.min.result (omega (arith, c.if-d-eq1.false, c.requires.some)) c.requires.room c.min.ensures
