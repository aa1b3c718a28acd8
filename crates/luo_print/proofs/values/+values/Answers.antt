use Rattle.std.proofs.Common.{◌≡◌, ◌++◌, ap, sym, arith, codes, ◌∙◌}
use Rattle.std.proofs.lemmas.Grind.{common_steps}
use Rattle.std.specs.List.{join_by}
use Rattle.luo_source.specs.View.{source_value_of}
use Rattle.luo_print.specs.CanonicalValues.{value_text}
use Rattle.luo_print.proofs.ValueTexts.{value_arm_line, values_joined, arms_joined, put_tuple, put_branch, put_case}
use Rattle.luo_print.proofs.values.+values.Goals as goal

pub put_value-returns-in_ok-put_tuple-in-Tuple : goal.put_value-returns-in_ok-put_tuple-in-Tuple
put_value-returns-in_ok-put_tuple-in-Tuple t c = c.in_ok-put_tuple-in-Tuple.ensures ∙ ap (λ s. c.args.text.now.items ++ s) (put_tuple c.args.indent _ _ _ _ c.in-Tuple.is c.as_slice.ensures)

pub put_value-returns-in_ok-put_branch-in-Branch : goal.put_value-returns-in_ok-put_branch-in-Branch
put_value-returns-in_ok-put_branch-in-Branch t c = c.in_ok-put_branch-in-Branch.ensures ∙ ap (λ s. c.args.text.now.items ++ s) (put_branch c.args.indent _ _ _ _ _ c.in-Branch.is c.get.ensures)

pub put_value-returns-in_ok-put_value_case-in-Case : goal.put_value-returns-in_ok-put_value_case-in-Case
put_value-returns-in_ok-put_value_case-in-Case t c = c.in_ok-put_value_case-in-Case.ensures ∙ ap (λ s. c.args.text.now.items ++ s) (put_case c.args.indent _ _ _ _ c.in-Case.is c.as_slice-in-Case.ensures)

pub put_parts-returns : goal.put_parts-returns
put_parts-returns t c =
    let joined : c.loop-part.text.items ≡ c.args.text.now.items ++ join_by (λ v. value_text c.args.indent (source_value_of v)) (codes ", ") c.args.parts.now = grind (arith, common_steps) in
    joined ∙ ap (λ s. c.args.text.now.items ++ s) (sym (values_joined c.args.indent c.args.parts.now))

pub put_value_arms-returns : goal.put_value_arms-returns
put_value_arms-returns t c =
    let lines : c.loop-arm.text.items ≡ c.args.text.now.items ++ join_by (value_arm_line c.args.indent) (codes ";") c.args.arms.now = grind (arith, common_steps) in
    lines ∙ ap (λ s. c.args.text.now.items ++ s) (sym (arms_joined c.args.indent c.args.arms.now))
