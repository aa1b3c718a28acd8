use Rattle.luo_equation.proofs.laws.expressions_are_written.Goals as goal
use Rattle.luo_equation.proofs.TextFactLemmas.{leaves-written, operations-written, kinds-written, bounds-written, points-written, equations-written}

pub returns-clause-leaves : goal.returns-clause-leaves
returns-clause-leaves c = leaves-written

pub returns-clause-operations : goal.returns-clause-operations
returns-clause-operations c = operations-written

pub returns-clause-kinds : goal.returns-clause-kinds
returns-clause-kinds c = kinds-written

pub returns-clause-bounds : goal.returns-clause-bounds
returns-clause-bounds c = bounds-written

pub returns-clause-points : goal.returns-clause-points
returns-clause-points c = points-written

pub returns-clause-equations : goal.returns-clause-equations
returns-clause-equations c = equations-written
