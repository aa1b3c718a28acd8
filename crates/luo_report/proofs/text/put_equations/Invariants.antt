use Rattle.std.proofs.Common.{◌≡◌, ◌++◌, take, flat_map}
use Rattle.luo_model.specs.View.{plain_of}
use Rattle.luo_equation.specs.View.{equation_of}
use Rattle.luo_report.specs.Report.{equation_line}
use Rattle.luo_report.proofs.text.put_equations.Given as goal

abbrev pub invariant-loop-equation : goal.invariant-loop-equation
invariant-loop-equation l = l.text.items ≡ l.fn.text.items ++ flat_map (λ e. equation_line (plain_of l.program) (equation_of e)) (take l.equation-index l.equations)
