use Rattle.std.proofs.Common.{ap, ◌∙◌, sym}
use Rattle.luo_num.specs.Mark.{capped}
use Rattle.luo_types.proofs.StatementNumbers.{block_statements, case_statements, forall_statements}
use Rattle.luo_types.proofs.statement_counts.+statements.Goals as goal

pub count_stmt-returns-in-Block : goal.count_stmt-returns-in-Block
count_stmt-returns-in-Block t c = c.count_stmts.ensures ∙ ap capped (sym (block_statements _ _ _ c.in-Block.is c.as_slice.ensures))

pub count_stmt-returns-in-Case : goal.count_stmt-returns-in-Case
count_stmt-returns-in-Case t c = c.count_case.ensures ∙ ap capped (sym (case_statements _ _ _ _ c.in-Case.is c.as_slice-in-Case.ensures))

pub count_stmt-returns-in-Forall : goal.count_stmt-returns-in-Forall
count_stmt-returns-in-Forall t c = c.count_forall.ensures ∙ ap capped (sym (forall_statements _ _ _ _ _ c.in-Forall.is c.get.ensures))
