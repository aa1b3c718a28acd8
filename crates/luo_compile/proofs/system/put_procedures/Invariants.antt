use Rattle.std.proofs.Common.{◌≡◌, ◌++◌, map, take}
use Rattle.luo_model.specs.View.{plain_of, procedure_of}
use Rattle.luo_equation.specs.View.{equation_of}
use Rattle.luo_system.specs.System.{procs_from}
use Rattle.luo_compile.proofs.system.put_procedures.Given as goal

abbrev pub invariant-loop-f : goal.invariant-loop-f
invariant-loop-f l = map equation_of l.equations.items ≡ map equation_of l.fn.equations.items ++ procs_from (plain_of l.program) 0 (map procedure_of (take l.f l.program.procs))
