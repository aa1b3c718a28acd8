use Rattle.std.proofs.Common.{◌≡◌, ◌++◌, codes, take, flat_map}
use Rattle.luo_model.specs.View.{plain_of}
use Rattle.luo_equation.specs.View.{expr_of}
use Rattle.luo_equation.specs.Text.{expr_text, factor_text}
use Rattle.luo_equation.proofs.text.+exprs.Given as goal

abbrev pub invariant-put_terms-loop-term : goal.invariant-put_terms-loop-term
invariant-put_terms-loop-term l = l.text.items ≡ l.initial.text.items ++ flat_map (λ e. codes " + " ++ expr_text (plain_of l.program) (expr_of e)) (take l.term-index l.rest)

abbrev pub invariant-put_factors-loop-factor : goal.invariant-put_factors-loop-factor
invariant-put_factors-loop-factor l = l.text.items ≡ l.initial.text.items ++ flat_map (λ e. codes "*" ++ factor_text (plain_of l.program) (expr_of e)) (take l.factor-index l.rest)
