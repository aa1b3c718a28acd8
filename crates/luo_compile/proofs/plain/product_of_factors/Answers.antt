use Rattle.std.proofs.Common.{rules, sym, ap, ◌∙◌}
use Rattle.luo_equation.specs.View.{expr_list}
use Rattle.luo_system.specs.Plain.{has_zero}
use Rattle.luo_compile.proofs.CodeLemmas.{product_made}
use Rattle.luo_compile.proofs.plain.product_of_factors.Goals as goal

pub returns : goal.returns
returns c = product_made c.args.factors (ap (λ xs. has_zero (expr_list xs)) (sym c.as_slice.ensures) ∙ sym c.is_void.ensures ∙ c.if-is_void.false) (search rules) (search rules)
