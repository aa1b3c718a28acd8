use Rattle.std.proofs.Common.{rules, map}
use Rattle.luo_model.specs.View.{plain_of}
use Rattle.luo_equation.specs.View.{equation_of}
use Rattle.luo_system.proofs.Truth.{systems-describe, systems-tables}
use Rattle.luo_compile.proofs.system.descriptors.Goals as goal

pub returns-clause-equations : goal.returns-clause-equations
returns-clause-equations c = search rules

pub returns-clause-describe : goal.returns-clause-describe
returns-clause-describe c = λ f. systems-describe (plain_of c.args.program.now) c.known.ensures f
    (map equation_of c.put_procedures.new.equations.items) (returns-clause-equations c)

pub returns-clause-table : goal.returns-clause-table
returns-clause-table c = λ f. systems-tables (plain_of c.args.program.now) c.known.ensures f
    (map equation_of c.put_procedures.new.equations.items) (returns-clause-equations c)
