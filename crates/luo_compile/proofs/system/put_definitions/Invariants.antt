use Rattle.std.proofs.Common.{◌≡◌, ◌++◌, map, take}
use Rattle.luo_model.specs.View.{plain_of}
use Rattle.luo_equation.specs.View.{equation_of}
use Rattle.luo_system.specs.System.{defs_from}
use Rattle.luo_compile.proofs.system.put_definitions.Given as goal

abbrev pub invariant-loop-i : goal.invariant-loop-i
invariant-loop-i l = map equation_of l.equations.items ≡ map equation_of l.fn.equations.items ++ defs_from (plain_of l.program) 0 (take l.i l.program.defs)
