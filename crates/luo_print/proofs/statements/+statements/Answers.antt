use Rattle.std.proofs.Common.{◌≡◌, ◌++◌, ap, sym, arith, codes, ◌∙◌}
use Rattle.std.proofs.lemmas.Grind.{common_steps}
use Rattle.std.specs.List.{join_by}
use Rattle.luo_print.proofs.StatementTexts.{stmt_line, arm_line, stmts_joined, arms_joined, put_block, put_case, put_forall}
use Rattle.luo_print.proofs.statements.+statements.Goals as goal

pub put_stmt-returns-in_ok-put_block-in-Block : goal.put_stmt-returns-in_ok-put_block-in-Block
put_stmt-returns-in_ok-put_block-in-Block t c = c.in_ok-put_block-in-Block.ensures ∙ ap (λ s. c.args.text.now.items ++ s) (put_block c.args.indent _ _ _ c.in-Block.is c.as_slice.ensures)

pub put_stmt-returns-in_ok-put_case-in-Case : goal.put_stmt-returns-in_ok-put_case-in-Case
put_stmt-returns-in_ok-put_case-in-Case t c = c.in_ok-put_case-in-Case.ensures ∙ ap (λ s. c.args.text.now.items ++ s) (put_case c.args.indent _ _ _ _ c.in-Case.is c.as_slice-in-Case.ensures)

pub put_stmt-returns-in_ok-put_forall-in-Forall : goal.put_stmt-returns-in_ok-put_forall-in-Forall
put_stmt-returns-in_ok-put_forall-in-Forall t c = c.in_ok-put_forall-in-Forall.ensures ∙ ap (λ s. c.args.text.now.items ++ s) (put_forall c.args.indent _ _ _ _ _ c.in-Forall.is c.get.ensures)

pub put_stmts-returns : goal.put_stmts-returns
put_stmts-returns t c =
    let lines : c.loop-stmt.text.items ≡ c.args.text.now.items ++ join_by (stmt_line c.args.indent) (codes ";") c.args.stmts.now = grind (arith, common_steps) in
    lines ∙ ap (λ s. c.args.text.now.items ++ s) (sym (stmts_joined c.args.indent c.args.stmts.now))

pub put_arms-returns : goal.put_arms-returns
put_arms-returns t c =
    let lines : c.loop-arm.text.items ≡ c.args.text.now.items ++ join_by (arm_line c.args.indent) (codes ";") c.args.arms.now = grind (arith, common_steps) in
    lines ∙ ap (λ s. c.args.text.now.items ++ s) (sym (arms_joined c.args.indent c.args.arms.now))
