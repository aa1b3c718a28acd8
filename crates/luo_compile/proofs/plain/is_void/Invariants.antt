use Rattle.std.proofs.Common.{◌≡◌, take, false}
use Rattle.luo_equation.specs.View.{expr_list}
use Rattle.luo_system.specs.Plain.{has_zero}
use Rattle.luo_compile.proofs.plain.is_void.Given as goal

abbrev pub invariant-loop-factor : goal.invariant-loop-factor
invariant-loop-factor l = has_zero (expr_list (take l.factor-index l.factors)) ≡ false
